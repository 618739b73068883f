-- What answers of a run over visits tell of what is left.
use Rattle.std.proofs.Common.{◌≡◌, ℕ, suc, ◌+◌, ◌<◌, ◌≤◌, true, List, [], ◌∷◌, ◌++◌, length, map, take, append-nil, Option, None, Some, is_some, sym, ap, ◌∙◌, subst, arith}
use Rattle.std.specs.Prelude.{get_or, nat_lt}
use Rattle.std.specs.List.{AllByRecursion, flat_map}
use Rattle.std.proofs.lemmas.Bool.{lt-ltb}
use Rattle.std.proofs.lemmas.List.{take_more}
use Rattle.std.proofs.lemmas.List.Concat.{flat_map-append}
use Rattle.dt_model.specs.Positions.{StoredTensor}
use Rattle.dt_nest.specs.Schedule.{Schedule}
use Rattle.dt_nest.specs.Paths.{HasLoops, paths_of}
use Rattle.dt_nest.specs.PathSteps.{visited_values, IsVisited}
use Rattle.dt_nest.proofs.Each.{all_map}
use Rattle.dt_nest.proofs.PathDepths.{fewer_loops}
use Rattle.dt_nest.proofs.PathFans.{paths_are_visited, paths_grow}
use Rattle.dt_nest.specs.declared.progress.Visit.{Visit}
use Rattle.dt_nest.specs.declared.progress.Visit.TheVariants as v
use Rattle.dt_nest.specs.Run.{Run, Goes}
use Rattle.dt_nest.specs.Visits.{Item, IsReset, IsVisit, IsPath}

one_left : (l : List Item) (i : Item) (r : List Item) → l ≡ i ∷ r → true ≡ nat_lt 0 (length l)
one_left l i r e =
    let n : length l ≡ suc (length r) = ap (λ (x : List Item). length x) e in
    sym (lt-ltb 0 (length l) (omega (arith, n)))

-- there is an answer where an item is left
pub goes_some : (old new : Run) (o : Option Visit) → Goes old o new → is_some o ≡ nat_lt 0 (length old.left)
goes_some old new None g = ap (λ (l : List Item). nat_lt 0 (length l)) (sym g.0)
goes_some old new (Some (v.Reset work)) g = one_left old.left (IsReset work) new.left g.0
goes_some old new (Some v.Leaf) g = one_left old.left (IsVisit g.0) new.left g.1

-- each answer takes one item
pub goes_one : (old new : Run) (x : Visit) → Goes old (Some x) new → length old.left ≡ length new.left + 1
goes_one old new (v.Reset work) g = let e = ap (λ (l : List Item). length l) g.0 in omega (arith, e)
goes_one old new v.Leaf g = let e = ap (λ (l : List Item). length l) g.1 in omega (arith, e)

-- one element more
pub flat_step : {X Y : Type 0} (f : X → List Y) (xs : List X) (k : ℕ) (d : X) → k < length xs → flat_map f (take (k + 1) xs) ≡ flat_map f (take k xs) ++ f (get_or xs k d)
flat_step f xs k d l =
    ap (flat_map f) (take_more xs k d l) ∙ flat_map-append f (take k xs) (get_or xs k d ∷ []) ∙ ap (λ r. flat_map f (take k xs) ++ r) (append-nil (f (get_or xs k d)))

-- the paths of one loop more are the shorter ones, each with the values by which it becomes a longer one
pub paths_more : (stored : List StoredTensor) (s : Schedule) (k j : ℕ) → HasLoops k s.nest → j < k
    → paths_of stored s (j + 1) ≡ flat_map (λ p. map (λ i. p ++ i ∷ []) (visited_values stored s p)) (paths_of stored s j)
paths_more stored s k j h l =
    subst (λ n. paths_of stored s n ≡ flat_map (λ p. map (λ i. p ++ i ∷ []) (visited_values stored s p)) (paths_of stored s j)) (one j) (paths_grow stored s j (fewer_loops (suc j) k s.nest (omega (arith, l)) h))
  where
    one : (j : ℕ) → suc j ≡ j + 1
    one j = omega arith

-- the paths of fewer loops are paths, with a loop inside
pub paths_deep : (stored : List StoredTensor) (s : Schedule) (k j : ℕ) → HasLoops k s.nest → j < k → AllByRecursion (λ p. IsPath s p × HasLoops (suc (length p)) s.nest) (paths_of stored s j)
paths_deep stored s k j h l =
    all_map (IsVisited stored s j) (λ p. IsPath s p × HasLoops (suc (length p)) s.nest) (λ p v. (v.path, fewer_loops (suc (length p)) k s.nest (more (length p) v.count) h)) (paths_of stored s j)
    (paths_are_visited stored s j (fewer_loops j k s.nest (omega (arith, l)) h))
  where
    more : (n : ℕ) → n ≡ j → suc n ≤ k
    more n e = omega (arith, e, l)
