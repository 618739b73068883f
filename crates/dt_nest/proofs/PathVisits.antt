-- The visits under a path.
-- a choice whose test fails
use Rattle.std.proofs.Common.{◌≡◌, ℕ, zero, suc, ◌+◌, Bool, true, false, List, [], ◌∷◌, ◌++◌, length, refl, ap, sym, ◌∙◌, arith, append-nil}
use Rattle.std.specs.Prelude.{if◌then◌else◌, slice_set, Option, drop}
use Rattle.std.specs.List.{flat_map, range_with_len}
use Rattle.dt_base.specs.Ranges.{below}
use Rattle.dt_nest.specs.declared.loops.Walk.{Walk}
use Rattle.dt_nest.specs.Tree.{Tree, Loop, Pre, Leaf, is_kernel_leaf}
use Rattle.dt_nest.specs.World.{world_of}
use Rattle.dt_nest.specs.Visits.{Scope, at_root, entered, Item, Tests, tests_of, no_slots, values_on, tree_visits, visits_of}
use Rattle.dt_nest.proofs.Moves.{range-add}
use Rattle.dt_nest.specs.Paths.{HasLoops, extent_inside}
use Rattle.dt_nest.specs.PathLaws.{VisitsFollowPaths}
use Rattle.dt_base.proofs.Ranges.{range_with_len-below}

pub if_false : {X : Type 0} (b : Bool) (x y : X) → b ≡ false → (if b then x else y) ≡ y
if_false true x y e = absurd (cc)
if_false false x y e = refl

-- equal functions make equal lists
pub flat_same : {X Y : Type 0} (f g : X → List Y) → ((i : X) → f i ≡ g i) → (xs : List X) → flat_map f xs ≡ flat_map g xs
flat_same f g h [] = refl
flat_same f g h (x ∷ xs) = ap (λ l. l ++ flat_map f xs) (h x) ∙ ap (λ l. g x ++ l) (flat_same f g h xs)

-- lists without elements make none
flat_none : {X : Type 0} (f : ℕ → List X) → ((i : ℕ) → f i ≡ []) → (xs : List ℕ) → [] ≡ flat_map f xs
flat_none f h [] = refl
flat_none f h (x ∷ xs) = flat_none f h xs ∙ ap (λ l. l ++ flat_map f xs) (sym (h x))

module _ (t : Tests) where
  -- the items of one value of a loop
  abbrev pub Step : Option Walk → ℕ → Tree → Scope → List ℕ → List ℕ → ℕ → List Item
  Step walk v body scope slots rest i = if t.takes walk v scope.pairs (slice_set slots v i) then tree_visits t body (entered scope v) (slice_set slots v i) rest else []

  -- the visits of a loop that is not substituted
  pub loop_visits : (v n : ℕ) (walk : Option Walk) (body : Tree) (scope : Scope) (slots path : List ℕ) → is_kernel_leaf body ≡ false
      → tree_visits t (Loop v n walk body) scope slots path ≡ flat_map (Step walk v body scope slots (drop 1 path)) (values_on path n)
  loop_visits v n walk body scope slots path e = if_false (is_kernel_leaf body) _ _ e

  -- those of one value
  pub value_visits : (v n : ℕ) (walk : Option Walk) (body : Tree) (scope : Scope) (slots : List ℕ) (i : ℕ) (path : List ℕ) → is_kernel_leaf body ≡ false
      → tree_visits t (Loop v n walk body) scope slots (i ∷ path) ≡ Step walk v body scope slots path i
  value_visits v n walk body scope slots i path e = loop_visits v n walk body scope slots (i ∷ path) e ∙ append-nil (Step walk v body scope slots path i)

  -- the visits under a path are those under the longer paths, one after another
  pub tree_step : (tree : Tree) (scope : Scope) (slots path : List ℕ) → HasLoops (suc (length path)) tree
      → tree_visits t tree scope slots path ≡ flat_map (λ i. tree_visits t tree scope slots (path ++ i ∷ [])) (below (extent_inside (length path) tree))
  tree_step (Loop v n walk body) scope slots [] h =
      loop_visits v n walk body scope slots [] h.0
      ∙ ap (flat_map (Step walk v body scope slots [])) (range_with_len-below n)
      ∙ flat_same (Step walk v body scope slots []) (λ i. tree_visits t (Loop v n walk body) scope slots (i ∷ [])) (λ i. sym (value_visits v n walk body scope slots i [] h.0)) (below n)
  tree_step (Loop v n walk body) scope slots (x ∷ path) h =
      value_visits v n walk body scope slots x path h.0
      ∙ go (t.takes walk v scope.pairs (slice_set slots v x)) (tree_step body (entered scope v) (slice_set slots v x) path h.1)
      ∙ flat_same (λ i. Step walk v body scope slots (path ++ i ∷ []) x) (λ i. tree_visits t (Loop v n walk body) scope slots (x ∷ (path ++ i ∷ []))) (λ i. sym (value_visits v n walk body scope slots x (path ++ i ∷ []) h.0)) (below (extent_inside (length path) body))
    where
      go : (b : Bool) → tree_visits t body (entered scope v) (slice_set slots v x) path ≡ flat_map (λ i. tree_visits t body (entered scope v) (slice_set slots v x) (path ++ i ∷ [])) (below (extent_inside (length path) body))
          → (if b then tree_visits t body (entered scope v) (slice_set slots v x) path else [])
          ≡ flat_map (λ i. if b then tree_visits t body (entered scope v) (slice_set slots v x) (path ++ i ∷ []) else []) (below (extent_inside (length path) body))
      go true e = e
      go false e = flat_none (λ i. []) (λ i. refl) (below (extent_inside (length path) body))
  tree_step (Pre work more p q) scope slots path h = absurd h
  tree_step (Leaf lhs terms guards kernel) scope slots path h = absurd h

-- the visits under a path are those under the longer paths, one after another
pub visits_follow : VisitsFollowPaths
unfolding visits_of
visits_follow stored s p h = tree_step (tests_of (world_of stored s) s.derived) s.nest at_root (no_slots s) p h
