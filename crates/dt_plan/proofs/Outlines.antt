-- What is asked of an outline and of the keys of its operations, and its paths along the loops.
use Rattle.std.proofs.Common.{◌≡◌, ◌⊎◌, inl, inr, ℕ, zero, suc, ◌+◌, ◌<◌, ◌≤◌, Bool, true, false, List, [], ◌∷◌, ◌++◌, length, map, refl, sym, ap, ◌∙◌, arith, append-nil, append_assoc}
use Rattle.std.specs.Prelude.{if◌then◌else◌}
use Rattle.std.specs.List.{AllByRecursion, flat_map}
use Rattle.std.proofs.lemmas.List.Concat.{flat_map_single}
use Rattle.dt_plan.specs.Brackets.{Outline, has_some, paths_from, visited}
use Rattle.dt_plan.proofs.Stretches.{Rises, Stretch}

-- the greatest number behind a path
abbrev pub last_end : ℕ
last_end = 4294967297

-- how the keys of all that is on a path begin
abbrev pub path_key : {A I : Type 0} → Outline A I → List ℕ → List ℕ
path_key m p = m.stmt ∷ 1 ∷ m.node p ∷ map suc p

-- the paths of one loop more
abbrev pub longer : {A I : Type 0} → Outline A I → List (List ℕ) → List (List ℕ)
longer m ps = flat_map (λ p. map (λ i. p ++ i ∷ []) (m.values p)) ps

-- an outline, by the key of an operation and the other node of a piece
pub record IsOutline {A I : Type 0} (key : A → List ℕ) (at : I → ℕ) (m : Outline A I) : Type 0 where
  pub tensors_rise : Rises (λ t. t) m.tensors
  pub works_rise : Rises (λ w. w) m.works
  pub works_inside : (m.works ≡ []) ⊎ (1 ≤ m.distributed)
  pub deepest : m.deepest ≡ m.distributed + m.inner
  pub deep : AllByRecursion (λ t. (m.distributed ≤ m.depth t) × (m.depth t ≤ m.distributed + m.inner)) m.tensors
  pub root : (m.paths 0 ≡ []) ⊎ (m.paths 0 ≡ [] ∷ [])
  pub grow : (k : ℕ) → k < m.distributed + m.inner → m.paths (suc k) ≡ longer m (m.paths k)
  pub values_rise : (p : List ℕ) → Rises (λ i. i) (m.values p)
  pub values_below : (p : List ℕ) → AllByRecursion (λ i. i < 4294967296) (m.values p)
  pub pieces_rise : (t : ℕ) (p : List ℕ) → Rises at (m.pieces t p)
  pub shares_rise : (t : ℕ) (p : List ℕ) → Rises at (m.shares t p)
  pub node_stays : (p : List ℕ) (i : ℕ) → m.distributed ≤ length p → m.node (p ++ (i ∷ [])) ≡ m.node p
  pub node_below : (p : List ℕ) → m.node p < m.nodes
  pub zeros_key : (n : ℕ) → Stretch key (m.stmt ∷ 0 ∷ []) n n (m.zeros n)
  pub alloc_key : (t : ℕ) (p : List ℕ) → key (m.alloc t p) ≡ path_key m p ++ (0 ∷ 1 ∷ t ∷ m.node p ∷ [])
  pub copy_key : (t : ℕ) (p : List ℕ) (x : I) → key (m.copy t p x) ≡ path_key m p ++ (0 ∷ 2 ∷ t ∷ at x ∷ [])
  pub task_key : (p : List ℕ) → key (m.task p) ≡ path_key m p ++ (1 ∷ 3 ∷ 0 ∷ m.node p ∷ [])
  pub fold_key : (t : ℕ) (p : List ℕ) (x : I) → key (m.fold t p x) ≡ path_key m p ++ (last_end ∷ 4 ∷ t ∷ at x ∷ [])
  pub free_key : (t : ℕ) (p : List ℕ) → key (m.free t p) ≡ path_key m p ++ (last_end ∷ 5 ∷ t ∷ m.node p ∷ [])
  pub work_alloc_key : (n w : ℕ) → key (m.work_alloc n w) ≡ m.stmt ∷ 1 ∷ n ∷ 0 ∷ 1 ∷ w ∷ n ∷ []
  pub work_free_key : (n w : ℕ) → key (m.work_free n w) ≡ m.stmt ∷ 1 ∷ n ∷ last_end ∷ 5 ∷ w ∷ n ∷ []

-- Paths -----------------------------------------------------------------------------------------------------------------

-- the paths of the first k loops, from the root down
abbrev pub root_paths : {A I : Type 0} → Outline A I → ℕ → List (List ℕ)
root_paths m k = if visited m then paths_from m k [] else []

module _ {A I : Type 0} (m : Outline A I) where
  longer_append : (ps qs : List (List ℕ)) → longer m (ps ++ qs) ≡ longer m ps ++ longer m qs
  longer_append [] qs = refl
  longer_append (p ∷ ps) qs = ap (λ l. map (λ i. p ++ i ∷ []) (m.values p) ++ l) (longer_append ps qs) ∙ sym (append_assoc (map (λ i. p ++ i ∷ []) (m.values p)) (longer m ps) (longer m qs))

  longer_flat : (f : ℕ → List (List ℕ)) (is : List ℕ) → longer m (flat_map f is) ≡ flat_map (λ i. longer m (f i)) is
  longer_flat f [] = refl
  longer_flat f (i ∷ is) = longer_append (f i) (flat_map f is) ∙ ap (λ l. longer m (f i) ++ l) (longer_flat f is)

  same_flat : (f g : ℕ → List (List ℕ)) → ((i : ℕ) → f i ≡ g i) → (is : List ℕ) → flat_map f is ≡ flat_map g is
  same_flat f g h [] = refl
  same_flat f g h (i ∷ is) = ap (λ l. l ++ flat_map f is) (h i) ∙ ap (λ l. g i ++ l) (same_flat f g h is)

  -- one loop more, inside
  from_longer : (k : ℕ) (p : List ℕ) → paths_from m (suc k) p ≡ longer m (paths_from m k p)
  from_longer zero p = flat_map_single (λ i. p ++ i ∷ []) (m.values p) ∙ sym (append-nil (map (λ i. p ++ i ∷ []) (m.values p)))
  from_longer (suc k) p =
      same_flat (λ i. paths_from m (suc k) (p ++ (i ∷ []))) (λ i. longer m (paths_from m k (p ++ (i ∷ [])))) (λ i. from_longer k (p ++ (i ∷ []))) (m.values p)
      ∙ sym (longer_flat (λ i. paths_from m k (p ++ (i ∷ []))) (m.values p))

module _ {A I : Type 0} (key : A → List ℕ) (at : I → ℕ) (m : Outline A I) (h : IsOutline key at m) where
  -- the paths of an outline are these
  pub paths_are : (k : ℕ) → k ≤ m.distributed + m.inner → m.paths k ≡ root_paths m k
  paths_are zero l = go (m.paths 0) h.root
    where
      go : (ps : List (List ℕ)) → (ps ≡ []) ⊎ (ps ≡ [] ∷ []) → ps ≡ (if has_some ps then [] ∷ [] else [])
      go [] e = refl
      go (p ∷ ps) (inl e) = absurd (cc)
      go (p ∷ ps) (inr e) = e
  paths_are (suc k) l = h.grow k (omega (arith, l)) ∙ ap (longer m) (paths_are k (omega (arith, l))) ∙ go (visited m)
    where
      go : (b : Bool) → longer m (if b then paths_from m k [] else []) ≡ (if b then paths_from m (suc k) [] else [])
      go true = sym (from_longer m k [])
      go false = refl
