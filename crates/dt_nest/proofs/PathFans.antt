-- The paths of the first loops that some visit extends, and what their visits are and add together.
-- Lists of lists --------------------------------------------------------------------------------------------------------
use Rattle.std.proofs.Common.{◌≡◌, ℕ, zero, suc, ◌+◌, ◌<◌, Bool, true, false, List, [], ◌∷◌, ◌++◌, length, map, filter, sum_by, refl, ap, sym, ◌∙◌, subst, arith, append-nil}
use Rattle.std.specs.Prelude.{if◌then◌else◌, nat_lt}
use Rattle.std.specs.List.{AllByRecursion, flat_map}
use Rattle.std.proofs.lemmas.Bool.{ltb-true}
use Rattle.std.proofs.lemmas.Grind.{flat_map-append}
use Rattle.std.proofs.lemmas.List.Concat.{flat_map_single}
use Rattle.std.proofs.lemmas.List.Folds.{flat_map-map}
use Rattle.std.proofs.lemmas.List.Sums.{sum_by-cons, sum_by-append}
use Rattle.std.proofs.lemmas.List.{map-append}
use Rattle.dt_base.specs.Ranges.{below, assignments}
use Rattle.dt_base.proofs.Filters.{filter-flat_map, filter-map}
use Rattle.dt_base.proofs.Sums.{sum_by-map}
use Rattle.dt_model.specs.Positions.{StoredTensor}
use Rattle.dt_nest.proofs.Each.{all_flat, all_made, below_all, all_both}
use Rattle.dt_nest.specs.Tree.{Tree, Loop, Pre, Leaf}
use Rattle.dt_nest.specs.Schedule.{Schedule}
use Rattle.dt_nest.specs.Meaning.{Entries}
use Rattle.dt_nest.specs.Lawful.{IsLawful}
use Rattle.dt_nest.specs.Outputs.{output_of, IsUnread}
use Rattle.dt_nest.specs.Visits.{visits_of, IsPath}
use Rattle.dt_nest.proofs.Congruence.{Like, like_same, like_trans, like_add}
use Rattle.dt_nest.specs.Grid.{outer_extents}
use Rattle.dt_nest.specs.Paths.{HasLoops, extent_inside, paths_of, sum_on}
use Rattle.dt_nest.specs.PathSteps.{visited_values, IsVisited, PathsAreVisited, PathsGrow, VisitsOverPaths, SumsOverPaths}
use Rattle.dt_nest.proofs.PathVisits.{flat_same, visits_follow}
use Rattle.dt_nest.proofs.PathDepths.{fewer_loops, assigned_paths}
use Rattle.dt_nest.proofs.PathSums.{root_sum}
use Rattle.dt_nest.proofs.PathUnions.{empty_of, flat_filter, visits_follow_visited, sums_follow_visited, unvisited_adds}

-- lists made of the elements of lists
pub flat_flat : {X Y Z : Type 0} (g : Y → List Z) (h : X → List Y) (xs : List X) → flat_map g (flat_map h xs) ≡ flat_map (λ x. flat_map g (h x)) xs
flat_flat g h [] = refl
flat_flat g h (x ∷ xs) = flat_map-append g (h x) (flat_map h xs) ∙ ap (λ l. flat_map g (h x) ++ l) (flat_flat g h xs)

map_flat : {X Y Z : Type 0} (f : Y → Z) (h : X → List Y) (xs : List X) → map f (flat_map h xs) ≡ flat_map (λ x. map f (h x)) xs
map_flat f h [] = refl
map_flat f h (x ∷ xs) = map-append f (h x) (flat_map h xs) ∙ ap (λ l. map f (h x) ++ l) (map_flat f h xs)

map_twice : {X Y Z : Type 0} (f : Y → Z) (g : X → Y) (xs : List X) → map f (map g xs) ≡ map (λ x. f (g x)) xs
map_twice f g [] = refl
map_twice f g (x ∷ xs) = ap (λ l. f (g x) ∷ l) (map_twice f g xs)

-- equal lists, where a fact holds
flat_same_on : {X Y : Type 0} (P : X → Type 0) (f g : X → List Y) → ((x : X) → P x → f x ≡ g x) → (xs : List X) → AllByRecursion P xs → flat_map f xs ≡ flat_map g xs
flat_same_on P f g h [] k = refl
flat_same_on P f g h (x ∷ xs) k = ap (λ l. l ++ flat_map f xs) (h x k.0) ∙ ap (λ l. g x ++ l) (flat_same_on P f g h xs k.1)

-- elements without a list of their own may be left out, where a fact holds
flat_filter_on : {X Y : Type 0} (P : X → Type 0) (f : X → List Y) (test : X → Bool) → ((x : X) → P x → test x ≡ false → f x ≡ []) → (xs : List X) → AllByRecursion P xs → flat_map f xs ≡ flat_map f (filter test xs)
flat_filter_on P f test h [] k = refl
flat_filter_on P f test h (x ∷ xs) k = go (test x) (h x k.0) (flat_filter_on P f test h xs k.1)
  where
    go : (b : Bool) → (b ≡ false → f x ≡ []) → flat_map f xs ≡ flat_map f (filter test xs) → f x ++ flat_map f xs ≡ flat_map f (if b then x ∷ filter test xs else filter test xs)
    go true n e = ap (λ l. f x ++ l) e
    go false n e = ap (λ l. l ++ flat_map f xs) (n refl) ∙ e

-- what passes a test, with the test
all_passing : {X : Type 0} (P Q : X → Type 0) (test : X → Bool) → ((x : X) → P x → test x ≡ true → Q x) → (xs : List X) → AllByRecursion P xs → AllByRecursion Q (filter test xs)
all_passing P Q test f [] h = tt
all_passing {X} P Q test f (x ∷ xs) h = go (test x) (f x h.0) (all_passing P Q test f xs h.1)
  where
    go : (b : Bool) → (b ≡ true → Q x) → AllByRecursion Q (filter test xs) → AllByRecursion Q (if b then x ∷ filter test xs else filter test xs)
    go true n r = (n refl, r)
    go false n r = r

no_elements : {X : Type 0} (xs ys : List X) → xs ++ ys ≡ [] → (xs ≡ []) × (ys ≡ [])
no_elements [] ys e = (refl, e)
no_elements (x ∷ xs) ys e = absurd (cc)

-- lists that are empty together have no element that isn't
flat_empty : {X Y : Type 0} (f : X → List Y) (xs : List X) → flat_map f xs ≡ [] → filter (λ x. nat_lt 0 (length (f x))) xs ≡ []
flat_empty f [] e = refl
flat_empty f (x ∷ xs) e =
    let parts = no_elements (f x) (flat_map f xs) e in
    ap (λ l. if nat_lt 0 (length l) then x ∷ filter (λ y. nat_lt 0 (length (f y))) xs else filter (λ y. nat_lt 0 (length (f y))) xs) parts.0 ∙ flat_empty f xs parts.1

sum_flat : {X Y : Type 0} (f : Y → ℕ) (h : X → List Y) (xs : List X) → sum_by f (flat_map h xs) ≡ sum_by (λ x. sum_by f (h x)) xs
sum_flat f h [] = refl
sum_flat f h (x ∷ xs) = sum_by-append f (h x) (flat_map h xs) ∙ ap (λ n. sum_by f (h x) + n) (sum_flat f h xs) ∙ sym (sum_by-cons (λ x. sum_by f (h x)) x xs)

-- sums of terms that are alike
sum_like : {X : Type 0} (P : X → Type 0) (f g : X → ℕ) → ((x : X) → P x → Like (f x) (g x)) → (xs : List X) → AllByRecursion P xs → Like (sum_by f xs) (sum_by g xs)
sum_like P f g h [] k = like_same 0 0 refl
sum_like P f g h (x ∷ xs) k =
    like_trans (sum_by f (x ∷ xs)) (f x + sum_by f xs) (sum_by g (x ∷ xs)) (like_same (sum_by f (x ∷ xs)) (f x + sum_by f xs) (sum_by-cons f x xs))
    (like_trans (f x + sum_by f xs) (g x + sum_by g xs) (sum_by g (x ∷ xs)) (like_add (f x) (g x) (sum_by f xs) (sum_by g xs) (h x k.0) (sum_like P f g h xs k.1))
    (like_same (g x + sum_by g xs) (sum_by g (x ∷ xs)) (sym (sum_by-cons g x xs))))

-- Paths -----------------------------------------------------------------------------------------------------------------

-- assignments of the first k loops have k values
assigned_lengths : (k : ℕ) (tree : Tree) → HasLoops k tree → AllByRecursion (λ p. length p ≡ k) (assignments (outer_extents k tree))
assigned_lengths zero tree h = (refl, tt)
assigned_lengths (suc k) (Loop v n walk body) h =
    all_flat (λ i. i < n) (λ p. length p ≡ suc k) (λ i. map (λ a. i ∷ a) (assignments (outer_extents k body)))
    (λ i l. all_made (λ p. length p ≡ k) (λ p. length p ≡ suc k) (λ a. i ∷ a) (λ a e. ap suc e) (assignments (outer_extents k body)) (assigned_lengths k body h.1))
    (below n) (below_all n)
assigned_lengths (suc k) (Pre work more p q) h = absurd h
assigned_lengths (suc k) (Leaf lhs terms guards kernel) h = absurd h

-- each path that some visit extends
pub paths_are_visited : PathsAreVisited
paths_are_visited stored s k h =
    all_passing (λ p. IsPath s p × (length p ≡ k)) (IsVisited stored s k) (λ p. nat_lt 0 (length (visits_of stored s p)))
    (λ p b e. record { path = b.0; count = b.1; some = ltb-true 0 (length (visits_of stored s p)) e })
    (assignments (outer_extents k s.nest))
    (all_both (IsPath s) (λ p. length p ≡ k) (λ p. IsPath s p × (length p ≡ k)) (λ p a b. (a, b)) (assignments (outer_extents k s.nest)) (assigned_paths k s.nest h) (assigned_lengths k s.nest h))

-- a path with one value more, for each value below n
abbrev grown : ℕ → List ℕ → List (List ℕ)
grown n p = map (λ i. p ++ i ∷ []) (below n)

-- assignments of one loop more
assigned_more : (k : ℕ) (tree : Tree) → HasLoops (suc k) tree → assignments (outer_extents (suc k) tree) ≡ flat_map (grown (extent_inside k tree)) (assignments (outer_extents k tree))
assigned_more zero (Loop v n walk body) h = flat_map_single (λ i. i ∷ []) (below n) ∙ sym (append-nil (map (λ i. i ∷ []) (below n)))
assigned_more (suc k) (Loop v n walk body) h =
    ap (λ (l : List (List ℕ)). flat_map (λ j. map (λ a. j ∷ a) l) (below n)) (assigned_more k body h.1)
    ∙ flat_same (λ j. map (λ a. j ∷ a) (flat_map (grown (extent_inside k body)) (assignments (outer_extents k body)))) (λ j. flat_map (grown (extent_inside k body)) (map (λ a. j ∷ a) (assignments (outer_extents k body)))) one (below n)
    ∙ sym (flat_flat (grown (extent_inside k body)) (λ j. map (λ a. j ∷ a) (assignments (outer_extents k body))) (below n))
  where
    one : (j : ℕ) → map (λ a. j ∷ a) (flat_map (grown (extent_inside k body)) (assignments (outer_extents k body))) ≡ flat_map (grown (extent_inside k body)) (map (λ a. j ∷ a) (assignments (outer_extents k body)))
    one j =
        map_flat (λ a. j ∷ a) (grown (extent_inside k body)) (assignments (outer_extents k body))
        ∙ flat_same (λ p. map (λ a. j ∷ a) (grown (extent_inside k body) p)) (λ p. grown (extent_inside k body) (j ∷ p)) (λ p. map_twice (λ a. j ∷ a) (λ i. p ++ i ∷ []) (below (extent_inside k body))) (assignments (outer_extents k body))
        ∙ sym (flat_map-map (grown (extent_inside k body)) (λ a. j ∷ a) (assignments (outer_extents k body)))
assigned_more zero (Pre work more p q) h = absurd h
assigned_more zero (Leaf lhs terms guards kernel) h = absurd h
assigned_more (suc k) (Pre work more p q) h = absurd h
assigned_more (suc k) (Leaf lhs terms guards kernel) h = absurd h

module _ (stored : List StoredTensor) (s : Schedule) where
  abbrev Visited : List ℕ → Bool
  Visited p = nat_lt 0 (length (visits_of stored s p))

  -- a path that no visit extends becomes none that some visit extends
  none_visited : (p : List ℕ) → HasLoops (suc (length p)) s.nest → Visited p ≡ false → visited_values stored s p ≡ []
  none_visited p h e = flat_empty (λ i. visits_of stored s (p ++ i ∷ [])) (below (extent_inside (length p) s.nest)) (sym (visits_follow stored s p h) ∙ empty_of (visits_of stored s p) e)

  loops_at : (k : ℕ) (p : List ℕ) → HasLoops (suc k) s.nest → length p ≡ k → HasLoops (suc (length p)) s.nest
  loops_at k p h e = subst (λ (n : ℕ). HasLoops (suc n) s.nest) (sym e) h

  -- the paths of one loop more
  pub grow : (k : ℕ) → HasLoops (suc k) s.nest → paths_of stored s (suc k) ≡ flat_map (λ p. map (λ i. p ++ i ∷ []) (visited_values stored s p)) (paths_of stored s k)
  grow k h =
      ap (filter Visited) (assigned_more k s.nest h)
      ∙ filter-flat_map Visited (grown (extent_inside k s.nest)) (assignments (outer_extents k s.nest))
      ∙ flat_same_on (λ p. length p ≡ k) (λ p. filter Visited (grown (extent_inside k s.nest) p)) (λ p. map (λ i. p ++ i ∷ []) (visited_values stored s p))
      (λ p e. filter-map Visited (λ i. p ++ i ∷ []) (below (extent_inside k s.nest)) ∙ ap (λ (n : ℕ). map (λ i. p ++ i ∷ []) (filter (λ i. Visited (p ++ i ∷ [])) (below (extent_inside n s.nest)))) (sym e))
      (assignments (outer_extents k s.nest)) (assigned_lengths k s.nest (fewer_loops k (suc k) s.nest (omega arith) h))
      ∙ flat_filter_on (λ p. length p ≡ k) (λ p. map (λ i. p ++ i ∷ []) (visited_values stored s p)) Visited
      (λ p e n. ap (map (λ i. p ++ i ∷ [])) (none_visited p (loops_at k p h e) n))
      (assignments (outer_extents k s.nest)) (assigned_lengths k s.nest (fewer_loops k (suc k) s.nest (omega arith) h))

  -- all visits are those under the paths of the first k loops
  pub visits_over : (k : ℕ) → HasLoops k s.nest → visits_of stored s [] ≡ flat_map (visits_of stored s) (paths_of stored s k)
  visits_over zero h =
      sym (append-nil (visits_of stored s []))
      ∙ flat_filter (visits_of stored s) Visited (λ p e. empty_of (visits_of stored s p) e) ([] ∷ [])
  visits_over (suc k) h =
      visits_over k (fewer_loops k (suc k) s.nest (omega arith) h)
      ∙ flat_same_on (IsVisited stored s k) (visits_of stored s) (λ p. flat_map (visits_of stored s) (map (λ i. p ++ i ∷ []) (visited_values stored s p)))
      (λ p v. visits_follow_visited stored s p (loops_at k p h v.count) ∙ sym (flat_map-map (visits_of stored s) (λ i. p ++ i ∷ []) (visited_values stored s p)))
      (paths_of stored s k) (paths_are_visited stored s k (fewer_loops k (suc k) s.nest (omega arith) h))
      ∙ sym (flat_flat (visits_of stored s) (λ p. map (λ i. p ++ i ∷ []) (visited_values stored s p)) (paths_of stored s k))
      ∙ ap (flat_map (visits_of stored s)) (sym (grow k h))

  module _ (x : Entries) (c : List ℕ) (lawful : IsLawful s) (unread : IsUnread (output_of s.nest) s.nest) where
    abbrev Sum : List ℕ → ℕ
    Sum p = sum_on stored s p x c

    root_like : Like (Sum []) (sum_by Sum (paths_of stored s 0))
    root_like = go (Visited []) refl
      where
        one : sum_by Sum ([] ∷ []) ≡ Sum []
        one = omega (arith, sum_by-cons Sum [] [])

        go : (b : Bool) → Visited [] ≡ b → Like (Sum []) (sum_by Sum (if b then [] ∷ [] else []))
        go true e = like_same (Sum []) (sum_by Sum ([] ∷ [])) (sym one)
        go false e = record { like = unvisited_adds s stored [] x c lawful unread tt (empty_of (visits_of stored s []) e) }

    -- and all sums, modulo 2 ^ 64
    pub sums_like : (k : ℕ) → HasLoops k s.nest → Like (Sum []) (sum_by Sum (paths_of stored s k))
    sums_like zero h = root_like
    sums_like (suc k) h =
        like_trans (Sum []) (sum_by Sum (paths_of stored s k)) (sum_by Sum (paths_of stored s (suc k))) (sums_like k (fewer_loops k (suc k) s.nest (omega arith) h))
        (like_trans (sum_by Sum (paths_of stored s k)) (sum_by (λ p. sum_by Sum (map (λ i. p ++ i ∷ []) (visited_values stored s p))) (paths_of stored s k)) (sum_by Sum (paths_of stored s (suc k)))
        (sum_like (IsVisited stored s k) Sum (λ p. sum_by Sum (map (λ i. p ++ i ∷ []) (visited_values stored s p))) step (paths_of stored s k) (paths_are_visited stored s k (fewer_loops k (suc k) s.nest (omega arith) h)))
        (like_same (sum_by (λ p. sum_by Sum (map (λ i. p ++ i ∷ []) (visited_values stored s p))) (paths_of stored s k)) (sum_by Sum (paths_of stored s (suc k)))
        (sym (sum_flat Sum (λ p. map (λ i. p ++ i ∷ []) (visited_values stored s p)) (paths_of stored s k)) ∙ ap (sum_by Sum) (sym (grow k h)))))
      where
        step : (p : List ℕ) → IsVisited stored s k p → Like (Sum p) (sum_by Sum (map (λ i. p ++ i ∷ []) (visited_values stored s p)))
        step p v =
            like_trans (Sum p) (sum_by (λ i. Sum (p ++ i ∷ [])) (visited_values stored s p)) (sum_by Sum (map (λ i. p ++ i ∷ []) (visited_values stored s p)))
            (record { like = sums_follow_visited s stored p x c lawful unread v.path (loops_at k p h v.count) })
            (like_same (sum_by (λ i. Sum (p ++ i ∷ [])) (visited_values stored s p)) (sum_by Sum (map (λ i. p ++ i ∷ []) (visited_values stored s p))) (sym (sum_by-map Sum (λ i. p ++ i ∷ []) (visited_values stored s p))))

-- the paths of one loop more
pub paths_grow : PathsGrow
paths_grow stored s k h = grow stored s k h

-- all visits are those under the paths of the first k loops
pub visits_over_paths : VisitsOverPaths
visits_over_paths stored s k h = visits_over stored s k h

-- the schedule's sum is the sum over these paths
pub sums_over_paths : SumsOverPaths
sums_over_paths s stored k x c lawful unread h = sym (root_sum stored s x c) ∙ (sums_like stored s x c lawful unread k h).like
