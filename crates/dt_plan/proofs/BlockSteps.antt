-- Blocks of paths, as they are kept up to a limit.
use Rattle.std.proofs.Common.{◌≡◌, ◌≢◌, ℕ, zero, suc, ◌+◌, ◌<◌, ◌≤◌, Bool, true, false, List, [], ◌∷◌, ◌++◌, length, take, refl, sym, ap, ◌∙◌, subst, arith, append-nil, append_assoc}
use Rattle.std.specs.Prelude.{get_or, ◌-◌, ◌||◌, map, filter, if◌then◌else◌, nat_eq}
use Rattle.std.specs.List.{AllByRecursion, flat_map, list_any}
use Rattle.dt_base.specs.Ranges.{below}
use Rattle.std.proofs.lemmas.List.{take_more, take_all}
use Rattle.std.proofs.lemmas.List.Concat.{flat_map-append}
use Rattle.dt_nest.proofs.Each.{all_get}
use Rattle.dt_plan.specs.declared.ops.Op.{Op}
use Rattle.dt_plan.specs.Brackets.{Outline, opened, closed, block, has_some, paths_on, node_ops}
use Rattle.dt_plan.specs.Keeps.{Keeps}
use Rattle.dt_plan.proofs.Keeping.{keeps_all, keeps_none, keeps_then}

less : (d : ℕ) → suc d - 1 ≡ d
less d = omega arith

-- one element more
pub flat_more : {X : Type 0} (f : X → List Op) (xs : List X) (k : ℕ) (d : X) → k < length xs → flat_map f (take (k + 1) xs) ≡ flat_map f (take k xs) ++ f (get_or xs k d)
flat_more f xs k d l =
    ap (flat_map f) (take_more xs k d l) ∙ flat_map-append f (take k xs) (get_or xs k d ∷ []) ∙ ap (λ (r : List Op). flat_map f (take k xs) ++ r) (append-nil (f (get_or xs k d)))

-- what one element more puts behind what was kept
pub keeps_more : {X : Type 0} (f : X → List Op) (xs : List X) (k : ℕ) (d : X) (front old mid new : List Op) → k < length xs
    → Keeps old (front ++ flat_map f (take k xs)) mid → Keeps mid (f (get_or xs k d)) new → Keeps old (front ++ flat_map f (take (k + 1) xs)) new
keeps_more f xs k d front old mid new l a b =
    subst (λ (r : List Op). Keeps old r new) (append_assoc front (flat_map f (take k xs)) (f (get_or xs k d)) ∙ ap (λ (r : List Op). front ++ r) (sym (flat_more f xs k d l)))
    (keeps_then old (front ++ flat_map f (take k xs)) mid (f (get_or xs k d)) new a b)

-- all of the elements
pub keeps_ended : {X : Type 0} (f : X → List Op) (xs : List X) (k : ℕ) (front old new : List Op) → length xs ≤ k → Keeps old (front ++ flat_map f (take k xs)) new → Keeps old (front ++ flat_map f xs) new
keeps_ended f xs k front old new l a = subst (λ ys. Keeps old (front ++ flat_map f ys) new) (take_all k xs l) a

module _ {I : Type 0} (m : Outline Op I) (path : List ℕ) (rest : ℕ) (old opened' closed' : List Op) (o : opened' ≡ opened m path) (z : closed' ≡ closed m path) where
  -- the block of a task
  pub task_kept : (op : Op) (a b new : List Op) → rest ≡ 0 → op ≡ m.task path → a ≡ old ++ opened' → b ≡ a ++ op ∷ [] → new ≡ b ++ closed' → Keeps old (block m rest path) new
  task_kept op a b new e t h i j =
      subst (λ r. Keeps old (block m r path) new) (sym e)
      (subst (λ (r : List Op). Keeps old (opened m path ++ (m.task path ∷ closed m path)) r) (sym all) (keeps_all old (opened m path ++ (m.task path ∷ closed m path))))
    where
      all : new ≡ old ++ (opened m path ++ (m.task path ∷ closed m path))
      all =
          j ∙ ap (λ (r : List Op). r ++ closed') (i ∙ ap (λ (r : List Op). r ++ op ∷ []) h)
          ∙ append_assoc (old ++ opened') (op ∷ []) closed' ∙ append_assoc old opened' (op ∷ closed')
          ∙ ap (λ (r : List Op). old ++ (r ++ (op ∷ closed'))) o ∙ ap (λ (r : Op). old ++ (opened m path ++ (r ∷ closed'))) t ∙ ap (λ (r : List Op). old ++ (opened m path ++ (m.task path ∷ r))) z

  -- the block of a path that doesn't reach the task
  pub inside_kept : (values : List ℕ) (k : ℕ) (mid new : List Op) → rest ≢ 0 → values ≡ m.values path → length values ≤ k
      → Keeps old (opened m path ++ flat_map (λ i. block m (rest - 1) (path ++ i ∷ [])) (take k values)) mid → new ≡ mid ++ closed' → Keeps old (block m rest path) new
  inside_kept values k mid new e v l h j = go rest e h
    where
      go : (r : ℕ) → r ≢ 0 → Keeps old (opened m path ++ flat_map (λ i. block m (r - 1) (path ++ i ∷ [])) (take k values)) mid → Keeps old (block m r path) new
      go zero f x = absurd (f refl)
      go (suc d) f x =
          let all = subst (λ (ys : List ℕ). Keeps old (opened m path ++ flat_map (λ i. block m d (path ++ i ∷ [])) ys) mid) v (keeps_ended (λ i. block m d (path ++ i ∷ [])) values k (opened m path) old mid l (subst (λ r. Keeps old (opened m path ++ flat_map (λ i. block m r (path ++ i ∷ [])) (take k values)) mid) (less d) x)) in
          subst (λ (r : List Op). Keeps old r new) (append_assoc (opened m path) (flat_map (λ i. block m d (path ++ i ∷ [])) (m.values path)) (closed m path))
          (keeps_then old (opened m path ++ flat_map (λ i. block m d (path ++ i ∷ [])) (m.values path)) mid (closed m path) new all (subst (λ (r : List Op). Keeps mid (closed m path) r) (ap (λ (r : List Op). mid ++ r) (sym z) ∙ sym j) (keeps_all mid (closed m path))))

one_filtered : {X : Type 0} (f : X → List Op) (t : X → Bool) (x : X) (xs : List X) (b : Bool) → flat_map (λ y. if t y then f y else []) xs ≡ flat_map f (filter t xs)
    → (if b then f x else []) ++ flat_map (λ y. if t y then f y else []) xs ≡ flat_map f (if b then x ∷ filter t xs else filter t xs)
one_filtered f t x xs true e = ap (λ (r : List Op). f x ++ r) e
one_filtered f t x xs false e = e

-- elements that pass a test, as the list of what each one gives or not
pub flat_filter : {X : Type 0} (f : X → List Op) (t : X → Bool) (xs : List X) → flat_map (λ x. if t x then f x else []) xs ≡ flat_map f (filter t xs)
flat_filter f t [] = refl
flat_filter f t (x ∷ xs) = one_filtered f t x xs (t x) (flat_filter f t xs)

one_some : {X : Type 0} (t : X → Bool) (x : X) (xs : List X) (b : Bool) → has_some (filter t xs) ≡ list_any t xs → has_some (if b then x ∷ filter t xs else filter t xs) ≡ (b || list_any t xs)
one_some t x xs true e = refl
one_some t x xs false e = e

-- there is one that passes
pub some_filter : {X : Type 0} (t : X → Bool) (xs : List X) → has_some (filter t xs) ≡ list_any t xs
some_filter t [] = refl
some_filter t (x ∷ xs) = one_some t x xs (t x) (some_filter t xs)

-- all paths, where each one that passes a test puts its block behind what was kept
pub paths_kept : {X : Type 0} (f : X → List Op) (t : X → Bool) (xs : List X) (k : ℕ) (old new : List Op) → length xs ≤ k → Keeps old ([] ++ flat_map (λ x. if t x then f x else []) (take k xs)) new → Keeps old (flat_map f (filter t xs)) new
paths_kept f t xs k old new l a = subst (λ (r : List Op). Keeps old r new) (flat_filter f t xs) (keeps_ended (λ x. if t x then f x else []) xs k [] old new l a)

module _ {I : Type 0} (m : Outline Op I) (n : ℕ) (old : List Op) where
  -- nothing is on the node
  pub node_empty : list_any (λ p. nat_eq (m.node p) n) (m.paths m.distributed) ≡ false → Keeps old (node_ops m n) old
  node_empty e = go (filter (λ p. nat_eq (m.node p) n) (m.paths m.distributed)) (some_filter (λ p. nat_eq (m.node p) n) (m.paths m.distributed) ∙ e)
    where
      go : (ps : List (List ℕ)) → has_some ps ≡ false → Keeps old (map (m.work_alloc n) (if has_some ps then m.works else []) ++ (flat_map (block m m.inner) ps ++ map (m.work_free n) (if has_some ps then m.works else []))) old
      go [] f = keeps_none old
      go (p ∷ ps) f = absurd (cc)

  -- its blocks, in its workspaces
  pub node_kept : (opened' closed' a b new : List Op) → list_any (λ p. nat_eq (m.node p) n) (m.paths m.distributed) ≡ true → opened' ≡ map (m.work_alloc n) m.works → closed' ≡ map (m.work_free n) m.works
      → a ≡ old ++ opened' → Keeps a (flat_map (block m m.inner) (paths_on m n)) b → new ≡ b ++ closed' → Keeps old (node_ops m n) new
  node_kept opened' closed' a b new e o z h k j =
      subst (λ c. Keeps old (map (m.work_alloc n) (if c then m.works else []) ++ (flat_map (block m m.inner) (paths_on m n) ++ map (m.work_free n) (if c then m.works else []))) new) (sym (some_filter (λ p. nat_eq (m.node p) n) (m.paths m.distributed) ∙ e))
      (keeps_then old (map (m.work_alloc n) m.works) a (flat_map (block m m.inner) (paths_on m n) ++ map (m.work_free n) m.works) new
      (subst (λ (r : List Op). Keeps old (map (m.work_alloc n) m.works) r) (ap (λ (r : List Op). old ++ r) (sym o) ∙ sym h) (keeps_all old (map (m.work_alloc n) m.works)))
      (keeps_then a (flat_map (block m m.inner) (paths_on m n)) b (map (m.work_free n) m.works) new k
      (subst (λ (r : List Op). Keeps b (map (m.work_free n) m.works) r) (ap (λ (r : List Op). b ++ r) (sym z) ∙ sym j) (keeps_all b (map (m.work_free n) m.works)))))

-- one node more
pub nodes_more : (f : ℕ → List Op) (n : ℕ) (front old mid new : List Op) → Keeps old (front ++ flat_map f (below n)) mid → Keeps mid (f n) new → Keeps old (front ++ flat_map f (below (n + 1))) new
nodes_more f n front old mid new a b =
    subst (λ (r : List Op). Keeps old r new)
    (append_assoc front (flat_map f (below n)) (f n) ∙ ap (λ (r : List Op). front ++ r) (ap (λ (r : List Op). flat_map f (below n) ++ r) (sym (append-nil (f n))) ∙ sym (flat_map-append f (below n) (n ∷ [])) ∙ ap (λ k. flat_map f (below k)) (one n)))
    (keeps_then old (front ++ flat_map f (below n)) mid (f n) new a b)
  where
    one : (n : ℕ) → suc n ≡ n + 1
    one n = omega arith
