-- The brackets of a statement ascend strictly by the key.
use Rattle.std.proofs.Common.{◌≡◌, ℕ, zero, suc, ◌+◌, ◌<◌, ◌≤◌, Bool, true, false, List, [], ◌∷◌, ◌++◌, refl, sym, ap, ◌∙◌, subst, arith, map, filter, length, length-append, append-nil, append_assoc, ◌⊎◌, inl, inr}
use Rattle.std.specs.Prelude.{if◌then◌else◌, nat_eq}
use Rattle.std.specs.List.{AllByRecursion, flat_map}
use Rattle.std.proofs.lemmas.Bool.{eqb-true}
use Rattle.std.proofs.lemmas.List.{map-append}
use Rattle.dt_base.specs.Ranges.{below}
use Rattle.dt_nest.proofs.Each.{all_map, all_filter, all_append, below_all}
use Rattle.dt_nest.proofs.PathFans.{flat_flat}
use Rattle.dt_plan.specs.Listed.{IsIn}
use Rattle.dt_plan.proofs.Ascending.{all_from_in, in_flat}
use Rattle.dt_plan.proofs.Stretches.{Rises, Stretch, no_stretch, one_stretch, wider, joined, shorter, row_of, gathered, gathered_map}
use Rattle.dt_plan.specs.Brackets.{Outline, moved_here, copies_on, folds_on, opened, closed, block, paths_on, has_some, works_on, node_ops, brackets, paths_from, visited}
use Rattle.dt_plan.proofs.Outlines.{last_end, path_key, IsOutline, root_paths, paths_are}

-- Lists -----------------------------------------------------------------------------------------------------------------

-- what passes a test still rises
pub rises_filter : {X : Type 0} (at : X → ℕ) (p : X → Bool) (xs : List X) → Rises at xs → Rises at (filter p xs)
rises_filter at p [] r = tt
rises_filter {X} at p (x ∷ xs) r = go (p x) (rises_filter at p xs r.1) (all_filter (λ y. at x < at y) p xs r.0)
  where
    go : (b : Bool) → Rises at (filter p xs) → AllByRecursion (λ y. at x < at y) (filter p xs) → Rises at (if b then x ∷ filter p xs else filter p xs)
    go true k a = (a, k)
    go false k a = k

-- the numbers below n rise
pub below_rises : (n : ℕ) → Rises (λ i. i) (below n)
below_rises zero = tt
below_rises (suc n) = push (below n) (below_rises n) (below_all n)
  where
    push : (xs : List ℕ) → Rises (λ i. i) xs → AllByRecursion (λ i. i < n) xs → Rises (λ i. i) (xs ++ (n ∷ []))
    push [] r a = (tt, tt)
    push (x ∷ xs) r a = (all_append (λ y. x < y) xs (n ∷ []) r.0 (a.0, tt), push xs r.1 a.1)

-- lists made of the elements that pass a test
pub flat_filter : {X Y : Type 0} (f : X → List Y) (p : X → Bool) (xs : List X) → flat_map f (filter p xs) ≡ flat_map (λ x. if p x then f x else []) xs
flat_filter f p [] = refl
flat_filter {X} {Y} f p (x ∷ xs) = go (p x) ∙ ap (λ l. (if p x then f x else []) ++ l) (flat_filter f p xs)
  where
    go : (b : Bool) → flat_map f (if b then x ∷ filter p xs else filter p xs) ≡ (if b then f x else []) ++ flat_map f (filter p xs)
    go true = refl
    go false = refl

-- a greater number for each thing that has a greater number
pub rises_by : {X : Type 0} (at to : X → ℕ) → ((x y : X) → at x < at y → to x < to y) → (xs : List X) → Rises at xs → Rises to xs
rises_by at to f [] r = tt
rises_by at to f (x ∷ xs) r = (all_map (λ y. at x < at y) (λ y. to x < to y) (λ y l. f x y l) xs r.0, rises_by at to f xs r.1)

-- two numbers behind a front
two : (front : List ℕ) (a b : ℕ) (rest : List ℕ) → front ++ (a ∷ b ∷ rest) ≡ ((front ++ (a ∷ [])) ++ (b ∷ [])) ++ rest
two front a b rest = sym (append_assoc (front ++ (a ∷ [])) (b ∷ []) rest ∙ append_assoc front (a ∷ []) (b ∷ rest))

module _ {A I : Type 0} (m : Outline A I) where
  -- the paths are as much longer
  pub paths_long : (k : ℕ) (p q : List ℕ) → IsIn q (paths_from m k p) → length q ≡ length p + k
  paths_long zero p q (inl e) = let l : length q ≡ length p = ap length e in omega (arith, l)
  paths_long zero p q (inr h) = absurd h
  paths_long (suc k) p q h =
      let r = in_flat (λ i. paths_from m k (p ++ (i ∷ []))) q (m.values p) h in
      omega (arith, paths_long k (p ++ (r.0 ∷ [])) q r.2, length-append p (r.0 ∷ []))

  -- what is made of all longer paths below a path is a stretch, if what is made of those below each longer one is
  paths_row : (key : A → List ℕ) (front : List ℕ) (f : List ℕ → List A) → ((p : List ℕ) → Rises (λ i. i) (m.values p)) → ((p : List ℕ) → AllByRecursion (λ i. i < 4294967296) (m.values p))
      → (k : ℕ) (p : List ℕ) → ((i : ℕ) → Stretch key (front ++ map suc (p ++ (i ∷ []))) 0 last_end (flat_map f (paths_from m k (p ++ (i ∷ [])))))
      → Stretch key (front ++ map suc p) 1 4294967296 (flat_map f (paths_from m (suc k) p))
  paths_row key front f r b k p s =
      subst (λ l. Stretch key (front ++ map suc p) 1 4294967296 l) (sym (flat_flat f (λ i. paths_from m k (p ++ (i ∷ []))) (m.values p)))
      (row_of key (front ++ map suc p) suc (λ i. flat_map f (paths_from m k (p ++ (i ∷ [])))) 1 4294967296 (m.values p) (rises_by (λ i. i) suc (λ i j l. omega arith) (m.values p) (r p))
      (all_map (λ i. i < 4294967296) (λ i. (1 ≤ suc i) × (suc i ≤ 4294967296)) (λ i l. (omega arith, omega arith)) (m.values p) (b p))
      (all_from_in (λ i. Stretch key (front ++ map suc p) (suc i) (suc i) (flat_map f (paths_from m k (p ++ (i ∷ []))))) (m.values p) (λ i h.
      shorter key (front ++ map suc p) (suc i) 0 last_end (flat_map f (paths_from m k (p ++ (i ∷ []))))
      (subst (λ l. Stretch key l 0 last_end (flat_map f (paths_from m k (p ++ (i ∷ []))))) (longer i) (s i)))))
    where
      longer : (i : ℕ) → front ++ map suc (p ++ (i ∷ [])) ≡ (front ++ map suc p) ++ (suc i ∷ [])
      longer i = ap (λ l. front ++ l) (map-append suc p (i ∷ [])) ∙ sym (append_assoc front (map suc p) (suc i ∷ []))

  -- what is made of all paths below a path is a stretch, if what is made of each is
  pub paths_stretch : (key : A → List ℕ) (front : List ℕ) (f : List ℕ → List A) → ((p : List ℕ) → Rises (λ i. i) (m.values p)) → ((p : List ℕ) → AllByRecursion (λ i. i < 4294967296) (m.values p))
      → (k : ℕ) (p : List ℕ) → ((q : List ℕ) → length q ≡ length p + k → Stretch key (front ++ map suc q) 0 last_end (f q))
      → Stretch key (front ++ map suc p) 0 last_end (flat_map f (paths_from m k p))
  paths_stretch key front f r b zero p s = subst (λ l. Stretch key (front ++ map suc p) 0 last_end l) (sym (append-nil (f p))) (s p (omega arith))
  paths_stretch key front f r b (suc k) p s =
      wider key (front ++ map suc p) 1 4294967296 0 last_end (flat_map f (paths_from m (suc k) p)) (omega arith) (omega arith)
      (paths_row key front f r b k p (λ i. paths_stretch key front f r b k (p ++ (i ∷ [])) (λ q e. s q (omega (arith, e, length-append p (i ∷ []))))))

  -- what is made of all paths is a stretch, if what is made of each is
  pub all_paths_stretch : (key : A → List ℕ) (front : List ℕ) (f : List ℕ → List A) → ((p : List ℕ) → Rises (λ i. i) (m.values p)) → ((p : List ℕ) → AllByRecursion (λ i. i < 4294967296) (m.values p))
      → (k : ℕ) → ((q : List ℕ) → length q ≡ k → Stretch key (front ++ map suc q) 0 last_end (f q)) → Stretch key front 0 last_end (flat_map f (root_paths m k))
  all_paths_stretch key front f r b k s = go (visited m)
    where
      go : (v : Bool) → Stretch key front 0 last_end (flat_map f (if v then paths_from m k [] else []))
      go true = subst (λ l. Stretch key l 0 last_end (flat_map f (paths_from m k []))) (append-nil front) (paths_stretch key front f r b k [] (λ q e. s q (omega (arith, e))))
      go false = no_stretch key front 0 last_end

  -- below the root, if a loop is above
  pub inner_paths_stretch : (key : A → List ℕ) (front : List ℕ) (f : List ℕ → List A) → ((p : List ℕ) → Rises (λ i. i) (m.values p)) → ((p : List ℕ) → AllByRecursion (λ i. i < 4294967296) (m.values p))
      → (k : ℕ) → 1 ≤ k → ((q : List ℕ) → length q ≡ k → Stretch key (front ++ map suc q) 0 last_end (f q)) → Stretch key front 1 4294967296 (flat_map f (root_paths m k))
  inner_paths_stretch key front f r b zero l s = absurd (omega (arith, l))
  inner_paths_stretch key front f r b (suc k) l s = go (visited m)
    where
      go : (v : Bool) → Stretch key front 1 4294967296 (flat_map f (if v then paths_from m (suc k) [] else []))
      go true = subst (λ l. Stretch key l 1 4294967296 (flat_map f (paths_from m (suc k) []))) (append-nil front)
          (paths_row key front f r b k [] (λ i. paths_stretch key front f r b k ([] ++ (i ∷ [])) (λ q e. s q (omega (arith, e)))))
      go false = no_stretch key front 1 4294967296

module _ {A I : Type 0} (key : A → List ℕ) (at : I → ℕ) (m : Outline A I) (k : IsOutline key at m) where
  here_rises : (p : List ℕ) → Rises (λ t. t) (moved_here m p)
  here_rises p = rises_filter (λ t. t) (λ t. nat_eq (m.depth t) (length p)) m.tensors k.tensors_rise

  -- one operation for each tensor that is moved here
  each_here : (p : List ℕ) (e w : ℕ) (f : ℕ → A) → ((t : ℕ) → key (f t) ≡ path_key m p ++ (e ∷ w ∷ t ∷ m.node p ∷ [])) → Stretch key (path_key m p ++ (e ∷ [])) w w (map f (moved_here m p))
  each_here p e w f q = gathered_map key (path_key m p ++ (e ∷ [])) w (λ t. t) f (λ t. m.node p ∷ []) (moved_here m p) (here_rises p) (λ t. q t ∙ two (path_key m p) e w (t ∷ m.node p ∷ []))

  -- the pieces of one tensor
  pieces_stretch : (p : List ℕ) (e w t : ℕ) (f : I → A) (xs : List I) → Rises at xs → ((x : I) → key (f x) ≡ path_key m p ++ (e ∷ w ∷ t ∷ at x ∷ [])) → Stretch key ((path_key m p ++ (e ∷ [])) ++ (w ∷ [])) t t (map f xs)
  pieces_stretch p e w t f xs r q =
      gathered_map key ((path_key m p ++ (e ∷ [])) ++ (w ∷ [])) t at f (λ x. []) xs r
      (λ x. q x ∙ two (path_key m p) e w (t ∷ at x ∷ []) ∙ sym (append_assoc ((path_key m p ++ (e ∷ [])) ++ (w ∷ [])) (t ∷ []) (at x ∷ [])))

  -- the pieces of the tensors that are moved here
  all_here : (p : List ℕ) (e w : ℕ) (f : ℕ → List A) → ((t : ℕ) → Stretch key ((path_key m p ++ (e ∷ [])) ++ (w ∷ [])) t t (f t)) → Stretch key (path_key m p ++ (e ∷ [])) w w (flat_map f (moved_here m p))
  all_here p e w f s = gathered key (path_key m p ++ (e ∷ [])) w (λ t. t) f (moved_here m p) (here_rises p) s

  copies_stretch : (p : List ℕ) (t : ℕ) → Stretch key ((path_key m p ++ (0 ∷ [])) ++ (2 ∷ [])) t t (copies_on m p t)
  copies_stretch p t = go (nat_eq t m.output)
    where
      go : (b : Bool) → Stretch key ((path_key m p ++ (0 ∷ [])) ++ (2 ∷ [])) t t (if b then [] else map (m.copy t p) (m.pieces t p))
      go true = no_stretch key ((path_key m p ++ (0 ∷ [])) ++ (2 ∷ [])) t t
      go false = pieces_stretch p 0 2 t (m.copy t p) (m.pieces t p) (k.pieces_rise t p) (λ x. k.copy_key t p x)

  folds_stretch : (p : List ℕ) (t : ℕ) → Stretch key ((path_key m p ++ (last_end ∷ [])) ++ (4 ∷ [])) t t (folds_on m p t)
  folds_stretch p t = go (nat_eq t m.output)
    where
      go : (b : Bool) → Stretch key ((path_key m p ++ (last_end ∷ [])) ++ (4 ∷ [])) t t (if b then map (m.fold t p) (m.shares t p) else [])
      go false = no_stretch key ((path_key m p ++ (last_end ∷ [])) ++ (4 ∷ [])) t t
      go true = pieces_stretch p last_end 4 t (m.fold t p) (m.shares t p) (k.shares_rise t p) (λ x. k.fold_key t p x)

  -- what is opened comes before everything deeper
  opened_stretch : (p : List ℕ) → Stretch key (path_key m p) 0 0 (opened m p)
  opened_stretch p =
      shorter key (path_key m p) 0 1 2 (opened m p)
      (joined key (path_key m p ++ (0 ∷ [])) 1 1 2 2 (map (λ t. m.alloc t p) (moved_here m p)) (flat_map (copies_on m p) (moved_here m p)) (omega arith) (omega arith) (omega arith)
      (each_here p 0 1 (λ t. m.alloc t p) (λ t. k.alloc_key t p)) (all_here p 0 2 (copies_on m p) (copies_stretch p)))

  -- what is closed comes after everything deeper
  closed_stretch : (p : List ℕ) → Stretch key (path_key m p) last_end last_end (closed m p)
  closed_stretch p =
      shorter key (path_key m p) last_end 4 5 (closed m p)
      (joined key (path_key m p ++ (last_end ∷ [])) 4 4 5 5 (flat_map (folds_on m p) (moved_here m p)) (map (λ t. m.free t p) (moved_here m p)) (omega arith) (omega arith) (omega arith)
      (all_here p last_end 4 (folds_on m p) (folds_stretch p)) (each_here p last_end 5 (λ t. m.free t p) (λ t. k.free_key t p)))

  -- A block ascends strictly, and its keys begin with its path.
  pub block_stretch : (d : ℕ) (p : List ℕ) → m.distributed ≤ length p → Stretch key (path_key m p) 0 last_end (block m d p)
  block_stretch zero p l =
      joined key (path_key m p) 0 0 1 last_end (opened m p) (m.task p ∷ closed m p) (omega arith) (omega arith) (omega arith) (opened_stretch p)
      (joined key (path_key m p) 1 1 last_end last_end (m.task p ∷ []) (closed m p) (omega arith) (omega arith) (omega arith)
      (one_stretch key (path_key m p) 1 (3 ∷ 0 ∷ m.node p ∷ []) (m.task p) (k.task_key p)) (closed_stretch p))
  block_stretch (suc d) p l =
      joined key (path_key m p) 0 0 1 last_end (opened m p) (inside ++ closed m p) (omega arith) (omega arith) (omega arith) (opened_stretch p)
      (joined key (path_key m p) 1 4294967296 last_end last_end inside (closed m p) (omega arith) (omega arith) (omega arith)
      (row_of key (path_key m p) suc (λ i. block m d (p ++ (i ∷ []))) 1 4294967296 (m.values p) (rises_by (λ i. i) suc (λ i j l. omega arith) (m.values p) (k.values_rise p))
      (all_map (λ i. i < 4294967296) (λ i. (1 ≤ suc i) × (suc i ≤ 4294967296)) (λ i l. (omega arith, omega arith)) (m.values p) (k.values_below p))
      (all_from_in (λ i. Stretch key (path_key m p) (suc i) (suc i) (block m d (p ++ (i ∷ [])))) (m.values p) (λ i h.
      shorter key (path_key m p) (suc i) 0 last_end (block m d (p ++ (i ∷ [])))
      (subst (λ f. Stretch key f 0 last_end (block m d (p ++ (i ∷ [])))) (longer i (k.node_stays p i l))
      (block_stretch d (p ++ (i ∷ [])) (omega (arith, length-append p (i ∷ []), l)))))))
      (closed_stretch p))
    where
      inside : List A
      inside = flat_map (λ i. block m d (p ++ (i ∷ []))) (m.values p)

      longer : (i : ℕ) → m.node (p ++ (i ∷ [])) ≡ m.node p → path_key m (p ++ (i ∷ [])) ≡ path_key m p ++ (suc i ∷ [])
      longer i e = ap (λ n. m.stmt ∷ 1 ∷ n ∷ map suc (p ++ (i ∷ []))) e ∙ ap (λ (l : List ℕ). m.stmt ∷ 1 ∷ m.node p ∷ l) (map-append suc p (i ∷ []))

  -- the block of a path, if it is on a node
  block_on : (n : ℕ) (q : List ℕ) → length q ≡ m.distributed → Stretch key (m.stmt ∷ 1 ∷ n ∷ map suc q) 0 last_end (if nat_eq (m.node q) n then block m m.inner q else [])
  block_on n q l = go (nat_eq (m.node q) n) (eqb-true (m.node q) n) (block_stretch m.inner q (omega (arith, l)))
    where
      go : (b : Bool) → (b ≡ true → m.node q ≡ n) → Stretch key (path_key m q) 0 last_end (block m m.inner q) → Stretch key (m.stmt ∷ 1 ∷ n ∷ map suc q) 0 last_end (if b then block m m.inner q else [])
      go false e s = no_stretch key (m.stmt ∷ 1 ∷ n ∷ map suc q) 0 last_end
      go true e s = subst (λ v. Stretch key (m.stmt ∷ 1 ∷ v ∷ map suc q) 0 last_end (block m m.inner q)) (e refl) s

  -- a workspace's operations on a node
  work_stretch : (n e w : ℕ) (f : ℕ → A) → ((v : ℕ) → key (f v) ≡ m.stmt ∷ 1 ∷ n ∷ e ∷ w ∷ v ∷ n ∷ []) → Stretch key (m.stmt ∷ 1 ∷ n ∷ []) e e (map f (works_on m n))
  work_stretch n e w f q =
      shorter key (m.stmt ∷ 1 ∷ n ∷ []) e w w (map f (works_on m n))
      (gathered_map key (m.stmt ∷ 1 ∷ n ∷ e ∷ []) w (λ v. v) f (λ v. n ∷ []) (works_on m n) (rise (has_some (paths_on m n))) q)
    where
      rise : (b : Bool) → Rises (λ w. w) (if b then m.works else [])
      rise true = k.works_rise
      rise false = tt

  -- the operations on a node
  node_stretch : (n : ℕ) → Stretch key (m.stmt ∷ 1 ∷ []) n n (node_ops m n)
  node_stretch n = shorter key (m.stmt ∷ 1 ∷ []) n 0 last_end (node_ops m n) (go k.works_inside)
    where
      front : List ℕ
      front = m.stmt ∷ 1 ∷ n ∷ []

      blocks : List A
      blocks = flat_map (block m m.inner) (paths_on m n)

      by_path : blocks ≡ flat_map (λ p. if nat_eq (m.node p) n then block m m.inner p else []) (root_paths m m.distributed)
      by_path =
          flat_filter (block m m.inner) (λ p. nat_eq (m.node p) n) (m.paths m.distributed)
          ∙ ap (flat_map (λ p. if nat_eq (m.node p) n then block m m.inner p else [])) (paths_are key at m k m.distributed (omega arith))

      none : (b : Bool) → m.works ≡ [] → (if b then m.works else []) ≡ []
      none true e = e
      none false e = refl

      go : (m.works ≡ []) ⊎ (1 ≤ m.distributed) → Stretch key front 0 last_end (node_ops m n)
      go (inl e) =
          subst (λ (l : List ℕ). Stretch key front 0 last_end (map (m.work_alloc n) l ++ (blocks ++ map (m.work_free n) l))) (sym (none (has_some (paths_on m n)) e))
          (subst (λ l. Stretch key front 0 last_end l) (sym (append-nil blocks))
          (subst (λ l. Stretch key front 0 last_end l) (sym by_path) (all_paths_stretch m key front (λ p. if nat_eq (m.node p) n then block m m.inner p else []) k.values_rise k.values_below m.distributed (block_on n))))
      go (inr l) =
          joined key front 0 0 1 last_end (map (m.work_alloc n) (works_on m n)) (blocks ++ map (m.work_free n) (works_on m n)) (omega arith) (omega arith) (omega arith)
          (work_stretch n 0 1 (m.work_alloc n) (k.work_alloc_key n))
          (joined key front 1 4294967296 last_end last_end blocks (map (m.work_free n) (works_on m n)) (omega arith) (omega arith) (omega arith)
          (subst (λ l. Stretch key front 1 4294967296 l) (sym by_path) (inner_paths_stretch m key front (λ p. if nat_eq (m.node p) n then block m m.inner p else []) k.values_rise k.values_below m.distributed l (block_on n)))
          (work_stretch n last_end 5 (m.work_free n) (k.work_free_key n)))

  -- The brackets of a statement ascend strictly by the key.
  pub brackets_stretch : Stretch key [] m.stmt m.stmt (brackets m)
  brackets_stretch =
      shorter key [] m.stmt 0 1 (brackets m)
      (joined key (m.stmt ∷ []) 0 0 1 1 (flat_map m.zeros (below m.nodes)) (flat_map (node_ops m) (below m.nodes)) (omega arith) (omega arith) (omega arith)
      (gathered key (m.stmt ∷ []) 0 (λ n. n) m.zeros (below m.nodes) (below_rises m.nodes) k.zeros_key)
      (gathered key (m.stmt ∷ []) 1 (λ n. n) (node_ops m) (below m.nodes) (below_rises m.nodes) node_stretch))
