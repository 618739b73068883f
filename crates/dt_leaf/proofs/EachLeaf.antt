-- What holds of each leaf of a tree holds of each visit.
use Rattle.std.proofs.Common.{ℕ, Bool, true, false, List, [], ◌∷◌, ◌++◌, Option, None}
use Rattle.std.specs.Prelude.{if◌then◌else◌, slice_set, drop}
use Rattle.std.specs.List.{AllByRecursion, flat_map}
use Rattle.dt_model.specs.Positions.{StoredTensor}
use Rattle.dt_nest.specs.declared.loops.Walk.{Walk}
use Rattle.dt_nest.specs.Tree.{Tree, Loop, Pre, Leaf, is_kernel_leaf}
use Rattle.dt_nest.specs.Schedule.{Schedule}
use Rattle.dt_nest.specs.World.{world_of}
use Rattle.dt_nest.specs.Visits.{Scope, at_root, entered, in_producer, LeafNode, Item, IsReset, IsVisit, Tests, leaf_node, tests_of, no_slots, with_reset, values_on, lane_visit, valid_values, substituted_visits, tree_visits, visits_of}
use Rattle.dt_nest.proofs.Each.{all_append, all_flat_map}

module _ (P : LeafNode → Type 0) where
  -- it holds of each leaf
  abbrev pub EachLeaf : Tree → Type 0
  EachLeaf (Loop v n walk body) = EachLeaf body
  EachLeaf (Pre work pairs producer consumer) = EachLeaf producer × EachLeaf consumer
  EachLeaf (Leaf lhs terms guards kernel) = P (leaf_node lhs terms guards kernel)

  -- it holds of the leaf of an item, if the item is a visit
  abbrev pub OfLeaf : Item → Type 0
  OfLeaf (IsReset work) = Unit {0}
  OfLeaf (IsVisit visit) = P visit.leaf

  module _ (t : Tests) where
    lane_leaf : (leaf : LeafNode) (scope : Scope) (slots : List ℕ) (v n : ℕ) (valid : List ℕ) → P leaf → AllByRecursion OfLeaf (lane_visit leaf scope slots v n valid)
    lane_leaf leaf scope slots v n [] h = tt
    lane_leaf leaf scope slots v n (x ∷ valid) h = (h, tt)

    substituted_leaf : (walk : Option Walk) (v n : ℕ) (body : Tree) (scope : Scope) (slots : List ℕ) → EachLeaf body → AllByRecursion OfLeaf (substituted_visits t walk v n body scope slots)
    substituted_leaf walk v n (Loop u m more inner) scope slots h = tt
    substituted_leaf walk v n (Pre work more p q) scope slots h = tt
    substituted_leaf walk v n (Leaf lhs terms guards kernel) scope slots h =
        lane_leaf (leaf_node lhs terms guards kernel) scope slots v n (valid_values t walk v n (leaf_node lhs terms guards kernel) scope.pairs slots) h

    reset_leaves : (work : ℕ) (items : List Item) → AllByRecursion OfLeaf items → AllByRecursion OfLeaf (with_reset work items)
    reset_leaves work [] h = tt
    reset_leaves work (i ∷ items) h = (tt, h)

    -- the visits of a tree
    tree_leaves : (tree : Tree) (scope : Scope) (slots path : List ℕ) → EachLeaf tree → AllByRecursion OfLeaf (tree_visits t tree scope slots path)
    tree_leaves (Loop v n walk body) scope slots path h =
        go (is_kernel_leaf body) (substituted_leaf walk v n body scope slots h)
        (all_flat_map OfLeaf (λ i. if t.takes walk v scope.pairs (slice_set slots v i) then tree_visits t body (entered scope v) (slice_set slots v i) (drop 1 path) else []) (values_on path n)
        (λ i. taken (t.takes walk v scope.pairs (slice_set slots v i)) (tree_visits t body (entered scope v) (slice_set slots v i) (drop 1 path)) (tree_leaves body (entered scope v) (slice_set slots v i) (drop 1 path) h)))
      where
        taken : (b : Bool) (l : List Item) → AllByRecursion OfLeaf l → AllByRecursion OfLeaf (if b then l else [])
        taken true l k = k
        taken false l k = tt

        go : (b : Bool) → AllByRecursion OfLeaf (substituted_visits t walk v n body scope slots)
            → AllByRecursion OfLeaf (flat_map (λ i. if t.takes walk v scope.pairs (slice_set slots v i) then tree_visits t body (entered scope v) (slice_set slots v i) (drop 1 path) else []) (values_on path n))
            → AllByRecursion OfLeaf (if b then substituted_visits t walk v n body scope slots
            else flat_map (λ i. if t.takes walk v scope.pairs (slice_set slots v i) then tree_visits t body (entered scope v) (slice_set slots v i) (drop 1 path) else []) (values_on path n))
        go true a b = a
        go false a b = b
    tree_leaves (Pre work more p q) scope slots path h =
        reset_leaves work (tree_visits t p (in_producer scope more) slots [] ++ tree_visits t q scope slots [])
        (all_append OfLeaf (tree_visits t p (in_producer scope more) slots []) (tree_visits t q scope slots []) (tree_leaves p (in_producer scope more) slots [] h.0) (tree_leaves q scope slots [] h.1))
    tree_leaves (Leaf lhs terms guards kernel) scope slots path h = go (t.holds (leaf_node lhs terms guards kernel) scope.pairs slots)
      where
        go : (b : Bool) → AllByRecursion OfLeaf (if b then IsVisit (record { leaf = leaf_node lhs terms guards kernel; around = scope.around; pairs = scope.pairs; slots = slots; lanes = None }) ∷ [] else [])
        go true = (h, tt)
        go false = tt

  -- the visits of a schedule that extend a path
  pub visited_leaves : (stored : List StoredTensor) (s : Schedule) (path : List ℕ) → EachLeaf s.nest → AllByRecursion OfLeaf (visits_of stored s path)
  unfolding visits_of
  visited_leaves stored s path h = tree_leaves (tests_of (world_of stored s) s.derived) s.nest at_root (no_slots s) path h
