-- What holds of each leaf of a tree holds of each visit.
use Rattle.std.proofs.Common.{ℕ, Bool, true, false, List, [], ◌∷◌, ◌++◌, Option, None}
use Rattle.std.specs.Prelude.{if◌then◌else◌, slice_set, drop}
use Rattle.std.specs.List.{AllByRecursion, flat_map}
use Rattle.dt_model.specs.Positions.{StoredTensor}
use Rattle.dt_model.specs.declared.stmt.Access.{Access}
use Rattle.dt_model.specs.declared.stmt.Term.{Term}
use Rattle.dt_nest.specs.declared.loops.Walk.{Walk}
use Rattle.dt_nest.proofs.Each.{all_append, all_flat_map}
use Rattle.dt_nest.specs.Tree.{Tree, Loop, Pre, Leaf, is_kernel_leaf, accesses_of, read_accesses}
use Rattle.dt_nest.specs.Schedule.{Schedule}
use Rattle.dt_nest.specs.World.{world_of}
use Rattle.dt_nest.specs.Outputs.{reads_of}
use Rattle.dt_nest.specs.Visits.{Scope, at_root, entered, in_producer, LeafNode, Item, IsReset, IsVisit, Tests, tests_of, no_slots, with_reset, values_on, lane_visit, valid_values, substituted_visits, tree_visits, visits_of}
use Rattle.dt_events.proofs.VisitReads.{all_front, all_back}

module _ (P : Access → List Term → Type 0) where
  -- it holds of the left side and the terms of each leaf
  abbrev pub EachLeaf : Tree → Type 0
  EachLeaf (Loop v n walk body) = EachLeaf body
  EachLeaf (Pre work pairs producer consumer) = EachLeaf producer × EachLeaf consumer
  EachLeaf (Leaf lhs terms guards kernel) = P lhs terms

  -- it holds of those of a visit
  abbrev pub LeafHas : Item → Type 0
  LeafHas (IsReset work) = Unit {0}
  LeafHas (IsVisit visit) = P visit.leaf.lhs visit.leaf.terms

  module _ (t : Tests) where
    lane_leaves : (leaf : LeafNode) (scope : Scope) (slots : List ℕ) (v n : ℕ) (valid : List ℕ) → P leaf.lhs leaf.terms → AllByRecursion LeafHas (lane_visit leaf scope slots v n valid)
    lane_leaves leaf scope slots v n [] h = tt
    lane_leaves leaf scope slots v n (x ∷ valid) h = (h, tt)

    substituted_leaves : (walk : Option Walk) (v n : ℕ) (body : Tree) (scope : Scope) (slots : List ℕ) → EachLeaf body → AllByRecursion LeafHas (substituted_visits t walk v n body scope slots)
    substituted_leaves walk v n (Loop u m more inner) scope slots h = tt
    substituted_leaves walk v n (Pre work more p q) scope slots h = tt
    substituted_leaves walk v n (Leaf lhs terms guards kernel) scope slots h =
        lane_leaves (record { lhs = lhs; terms = terms; guards = guards; kernel = kernel }) scope slots v n (valid_values t walk v n (record { lhs = lhs; terms = terms; guards = guards; kernel = kernel }) scope.pairs slots) h

    reset_leaves : (work : ℕ) (items : List Item) → AllByRecursion LeafHas items → AllByRecursion LeafHas (with_reset work items)
    reset_leaves work [] h = tt
    reset_leaves work (i ∷ items) h = (tt, h)

    -- the visits of a tree
    tree_leaves : (tree : Tree) (scope : Scope) (slots path : List ℕ) → EachLeaf tree → AllByRecursion LeafHas (tree_visits t tree scope slots path)
    tree_leaves (Loop v n walk body) scope slots path h =
        go (is_kernel_leaf body)
        (all_flat_map LeafHas (λ i. if t.takes walk v scope.pairs (slice_set slots v i) then tree_visits t body (entered scope v) (slice_set slots v i) (drop 1 path) else []) (values_on path n)
        (λ i. taken (t.takes walk v scope.pairs (slice_set slots v i)) i (tree_leaves body (entered scope v) (slice_set slots v i) (drop 1 path) h)))
      where
        taken : (b : Bool) (i : ℕ) → AllByRecursion LeafHas (tree_visits t body (entered scope v) (slice_set slots v i) (drop 1 path))
            → AllByRecursion LeafHas (if b then tree_visits t body (entered scope v) (slice_set slots v i) (drop 1 path) else [])
        taken true i k = k
        taken false i k = tt

        go : (b : Bool) → AllByRecursion LeafHas (flat_map (λ i. if t.takes walk v scope.pairs (slice_set slots v i) then tree_visits t body (entered scope v) (slice_set slots v i) (drop 1 path) else []) (values_on path n))
            → AllByRecursion LeafHas (if b then substituted_visits t walk v n body scope slots else flat_map (λ i. if t.takes walk v scope.pairs (slice_set slots v i) then tree_visits t body (entered scope v) (slice_set slots v i) (drop 1 path) else []) (values_on path n))
        go true k = substituted_leaves walk v n body scope slots h
        go false k = k
    tree_leaves (Pre work more p q) scope slots path h =
        reset_leaves work (tree_visits t p (in_producer scope more) slots [] ++ tree_visits t q scope slots [])
        (all_append LeafHas (tree_visits t p (in_producer scope more) slots []) (tree_visits t q scope slots []) (tree_leaves p (in_producer scope more) slots [] h.0) (tree_leaves q scope slots [] h.1))
    tree_leaves (Leaf lhs terms guards kernel) scope slots path h = go (t.holds (record { lhs = lhs; terms = terms; guards = guards; kernel = kernel }) scope.pairs slots)
      where
        go : (b : Bool) → AllByRecursion LeafHas (if b then IsVisit (record { leaf = record { lhs = lhs; terms = terms; guards = guards; kernel = kernel }; around = scope.around; pairs = scope.pairs; slots = slots; lanes = None }) ∷ [] else [])
        go true = (h, tt)
        go false = tt

  -- the visits of a schedule under a path
  pub path_leaves : (stored : List StoredTensor) (s : Schedule) (p : List ℕ) → EachLeaf s.nest → AllByRecursion LeafHas (visits_of stored s p)
  unfolding visits_of
  path_leaves stored s p h = tree_leaves (tests_of (world_of stored s) s.derived) s.nest at_root (no_slots s) p h

-- what holds of each access of a tree, and what holds of each that is read, hold at each leaf
pub leaf_accesses : (P Q : Access → Type 0) (tree : Tree) → AllByRecursion P (accesses_of tree) → AllByRecursion Q (reads_of tree)
    → EachLeaf (λ lhs terms. AllByRecursion P (lhs ∷ read_accesses terms) × AllByRecursion Q (read_accesses terms)) tree
leaf_accesses P Q (Loop v n walk body) h k = leaf_accesses P Q body h k
leaf_accesses P Q (Pre work pairs producer consumer) h k = (
  leaf_accesses P Q producer (all_front P (accesses_of producer) (accesses_of consumer) h) (all_front Q (reads_of producer) (reads_of consumer) k),
  leaf_accesses P Q consumer (all_back P (accesses_of producer) (accesses_of consumer) h) (all_back Q (reads_of producer) (reads_of consumer) k),
)
leaf_accesses P Q (Leaf lhs terms guards kernel) h k = (h, k)
