-- Where a run over the visits of a nest stands: the leaf of a visit, by its number from the left, and the values of the
-- loops around it, one slot per name; and the items that come after.
use Rattle.std.specs.Prelude.{◌≡◌, ℕ, ◌+◌, ◌-◌, ◌<◌, ◌≤◌, true, List, [], ◌∷◌, ◌++◌, length, map, drop, Option, Some, None, if◌then◌else◌, MatchBool, nat_lt, slice_index, slice_set}
use Rattle.std.specs.List.{flat_map, range_with_len}
use Rattle.dt_nest.specs.declared.loops.Walk.{Walk}
use Rattle.dt_nest.specs.declared.loops.Pair.{Pair}
use Rattle.dt_nest.specs.declared.search.Stand.{Stand}
use Rattle.dt_nest.specs.Tree.{Tree, Loop, Pre, Leaf, leaf_count, is_kernel_leaf}
use Rattle.dt_nest.specs.declared.loops.Kernel.TheVariants.{Plain}
use Rattle.dt_nest.specs.Visits.{LeafNode, leaf_node, Lanes, Scope, scoped, entered, in_producer, Item, IsReset, IsVisit, Tests, valid_values, tree_visits}

-- the slots with those of the tree's loops at 0
abbrev pub cleared : Tree → List ℕ → List ℕ
cleared (Loop v n walk body) slots = slice_set (cleared body slots) v 0
cleared (Pre work more producer consumer) slots = cleared consumer (cleared producer slots)
cleared (Leaf lhs terms guards kernel) slots = slots

-- the slots of the tree's loops are 0
abbrev pub AreZero : Tree → List ℕ → Type 0
AreZero (Loop v n walk body) slots = (slice_index slots v ≡ 0) × AreZero body slots
AreZero (Pre work more producer consumer) slots = AreZero producer slots × AreZero consumer slots
AreZero (Leaf lhs terms guards kernel) slots = Unit {0}

-- v is no loop of the tree
abbrev pub Lacks : ℕ → Tree → Type 0
Lacks v (Loop u n walk body) = (v ≡ u → ⊥) × Lacks v body
Lacks v (Pre work more producer consumer) = Lacks v producer × Lacks v consumer
Lacks v (Leaf lhs terms guards kernel) = Unit {0}

-- no loop of the first tree is one of the second
abbrev pub AreApart : Tree → Tree → Type 0
AreApart (Loop v n walk body) other = Lacks v other × AreApart body other
AreApart (Pre work more producer consumer) other = AreApart producer other × AreApart consumer other
AreApart (Leaf lhs terms guards kernel) other = Unit {0}

-- each loop has a slot of its own
abbrev pub HaveSlots : Tree → ℕ → Type 0
HaveSlots (Loop v n walk body) room = (v < room) × Lacks v body × HaveSlots body room
HaveSlots (Pre work more producer consumer) room = HaveSlots producer room × HaveSlots consumer room × AreApart producer consumer × AreApart consumer producer
HaveSlots (Leaf lhs terms guards kernel) room = Unit {0}

-- the renamings in force at a leaf
abbrev pub pairs_at : Tree → ℕ → List Pair
pairs_at (Loop v n walk body) leaf = pairs_at body leaf
pairs_at (Pre work more producer consumer) leaf =
    if nat_lt leaf (leaf_count producer) then more ++ pairs_at producer leaf else pairs_at consumer (leaf - leaf_count producer)
pairs_at (Leaf lhs terms guards kernel) leaf = []

-- the workspaces whose precompute nodes are around a leaf, the outermost first
abbrev pub works_at : Tree → ℕ → List ℕ
works_at (Loop v n walk body) leaf = works_at body leaf
works_at (Pre work more producer consumer) leaf =
    work ∷ (if nat_lt leaf (leaf_count producer) then works_at producer leaf else works_at consumer (leaf - leaf_count producer))
works_at (Leaf lhs terms guards kernel) leaf = []

-- the visit of a leaf, in a substituted loop or not
abbrev pub leaf_item : Tests → Tree → Scope → List ℕ → Option Lanes → Item
leaf_item t (Loop v n walk body) scope slots lanes = IsReset 0
leaf_item t (Pre work more producer consumer) scope slots lanes = IsReset 0
leaf_item t (Leaf lhs terms guards kernel) scope slots lanes =
    IsVisit (record { leaf = record { lhs = lhs; terms = terms; guards = guards; kernel = kernel }; around = scope.around; pairs = scope.pairs; slots = slots; lanes = lanes })

-- a leaf of nothing
abbrev pub no_node : LeafNode
no_node = leaf_node (record { tensor = 0; vars = [] }) [] [] Plain

-- the parts of a leaf
abbrev pub node_of : Tree → LeafNode
node_of (Loop v n walk body) = no_node
node_of (Pre work more producer consumer) = no_node
node_of (Leaf lhs terms guards kernel) = leaf_node lhs terms guards kernel

-- the visit where the run stands
abbrev pub item_at : Tests → Tree → Scope → List ℕ → ℕ → Item
item_at t (Loop v n walk body) scope slots leaf =
    if is_kernel_leaf body then leaf_item t body scope slots (Some (record { var = v; extent = n; valid = valid_values t walk v n (node_of body) scope.pairs slots }))
    else item_at t body (entered scope v) slots leaf
item_at t (Pre work more producer consumer) scope slots leaf =
    if nat_lt leaf (leaf_count producer) then item_at t producer (in_producer scope more) slots leaf else item_at t consumer scope slots (leaf - leaf_count producer)
item_at t (Leaf lhs terms guards kernel) scope slots leaf =
    IsVisit (record { leaf = record { lhs = lhs; terms = terms; guards = guards; kernel = kernel }; around = scope.around; pairs = scope.pairs; slots = slots; lanes = None })

-- the items of a loop's body at one value
abbrev pub step_of : Tests → Option Walk → ℕ → Tree → Scope → List ℕ → List ℕ → ℕ → List Item
step_of t walk v body scope base path i =
    if t.takes walk v scope.pairs (slice_set base v i) then tree_visits t body (entered scope v) (slice_set base v i) path else []

-- the end of the values that a loop goes through from x on
abbrev pub end_on : List ℕ → ℕ → ℕ → ℕ
end_on [] n x = n
end_on (y ∷ path) n x = x + 1

-- the items after the visit where the run stands
abbrev pub after : Tests → Tree → Scope → List ℕ → List ℕ → ℕ → List Item
after t (Loop v n walk body) scope slots path leaf =
    if is_kernel_leaf body then []
    else after t body (entered scope v) slots (drop 1 path) leaf
    ++ flat_map (step_of t walk v body scope (cleared body slots) (drop 1 path)) (range_with_len (slice_index slots v + 1) (end_on path n (slice_index slots v) - (slice_index slots v + 1)))
after t (Pre work more producer consumer) scope slots path leaf =
    if nat_lt leaf (leaf_count producer) then after t producer (in_producer scope more) slots [] leaf ++ tree_visits t consumer scope (cleared producer slots) []
    else after t consumer scope slots [] (leaf - leaf_count producer)
after t (Leaf lhs terms guards kernel) scope slots path leaf = []

-- the slots of the loops around the leaf are below the extents, the others are 0
abbrev pub IsAt : Tree → List ℕ → ℕ → Type 0
IsAt (Loop v n walk body) slots leaf =
    MatchBool (is_kernel_leaf body) (slice_index slots v ≡ 0) (slice_index slots v < n) × IsAt body slots leaf
IsAt (Pre work more producer consumer) slots leaf =
    MatchBool (nat_lt leaf (leaf_count producer)) (IsAt producer slots leaf × AreZero consumer slots) (AreZero producer slots × IsAt consumer slots (leaf - leaf_count producer))
IsAt (Leaf lhs terms guards kernel) slots leaf = leaf ≡ 0

-- A run has come to a visit: before it stand the resets of the workspaces around its leaf but the first, which were reset
-- before, and then come the items after it.
pub record Reaches (t : Tests) (tree : Tree) (scope : Scope) (path : List ℕ) (list : List Item) (slots : List ℕ) (leaf past : ℕ) : Type 0 where
  pub items : list ≡ map IsReset (drop past (works_at tree leaf)) ++ item_at t tree scope slots leaf ∷ after t tree scope slots path leaf
  pub stands : IsAt tree slots leaf
  pub exists : leaf < leaf_count tree
  pub resets : past ≤ length (works_at tree leaf)

-- what a search for the first visit of a tree found
abbrev pub FirstIs : Tests → Tree → List Pair → List ℕ → List ℕ → List ℕ → Option ℕ → Type 0
FirstIs t tree pairs path old new None = ((around : List ℕ) → tree_visits t tree (scoped pairs around) old path ≡ []) × (new ≡ old)
FirstIs t tree pairs path old new (Some leaf) =
    ((around : List ℕ) → Reaches t tree (scoped pairs around) path (tree_visits t tree (scoped pairs around) old path) new leaf 0) × (cleared tree new ≡ old)

-- The search came to the first visit of a tree, or there is none and the slots are as they were, whatever loops are around.
pub record Finds (t : Tests) (tree : Tree) (pairs : List Pair) (path old new : List ℕ) (found : Option ℕ) : Type 0 where
  pub goes : FirstIs t tree pairs path old new found

-- what a search below one value of a loop found
abbrev pub EntryIs : Tests → Option Walk → ℕ → Tree → List Pair → List ℕ → List ℕ → List ℕ → Option ℕ → Type 0
EntryIs t walk v body pairs path old new None =
    ((around : List ℕ) → (if t.takes walk v pairs old then tree_visits t body (scoped pairs around) old path else []) ≡ []) × (new ≡ old)
EntryIs t walk v body pairs path old new (Some leaf) = (t.takes walk v pairs old ≡ true) × Finds t body pairs path old new (Some leaf)

-- The search came to the first visit below one value of a loop, or there is none and the slots are as they were.
pub record Enters (t : Tests) (walk : Option Walk) (v : ℕ) (body : Tree) (pairs : List Pair) (path old new : List ℕ) (found : Option ℕ) : Type 0 where
  pub goes : EntryIs t walk v body pairs path old new found

-- A run over a loop's values from one number up to another has come to a visit.
pub record ReachesFrom (t : Tests) (walk : Option Walk) (v : ℕ) (body : Tree) (scope : Scope) (path : List ℕ) (from to : ℕ) (old new : List ℕ) (leaf : ℕ) : Type 0 where
  pub items : flat_map (step_of t walk v body scope old path) (range_with_len from (to - from))
      ≡ map IsReset (works_at body leaf)
      ++ item_at t body (entered scope v) new leaf ∷ (after t body (entered scope v) new path leaf ++ flat_map (step_of t walk v body scope (cleared body new) path) (range_with_len (slice_index new v + 1) (to - (slice_index new v + 1))))
  pub begins : from ≤ slice_index new v
  pub ends : slice_index new v < to
  pub stands : IsAt body new leaf
  pub exists : leaf < leaf_count body
  pub back : slice_set (cleared body new) v 0 ≡ old

-- what a search over a loop's values found
abbrev pub FirstFromIs : Tests → Option Walk → ℕ → Tree → List Pair → List ℕ → ℕ → ℕ → List ℕ → List ℕ → Option ℕ → Type 0
FirstFromIs t walk v body pairs path from to old new None =
    ((around : List ℕ) → flat_map (step_of t walk v body (scoped pairs around) old path) (range_with_len from (to - from)) ≡ []) × (new ≡ old)
FirstFromIs t walk v body pairs path from to old new (Some leaf) = (around : List ℕ) → ReachesFrom t walk v body (scoped pairs around) path from to old new leaf

-- The search came to the first visit of a loop's values from one number up to another, or there is none.
pub record FindsFrom (t : Tests) (walk : Option Walk) (v : ℕ) (body : Tree) (pairs : List Pair) (path : List ℕ) (from to : ℕ) (old new : List ℕ) (found : Option ℕ) : Type 0 where
  pub goes : FirstFromIs t walk v body pairs path from to old new found

-- where a search for the next visit came
abbrev pub NextIs : Tests → Tree → List Pair → List ℕ → ℕ → List ℕ → List ℕ → Option Stand → Type 0
NextIs t tree pairs path leaf old new None = ((around : List ℕ) → after t tree (scoped pairs around) old path leaf ≡ []) × (new ≡ cleared tree old)
NextIs t tree pairs path leaf old new (Some at) =
    ((around : List ℕ) → Reaches t tree (scoped pairs around) path (after t tree (scoped pairs around) old path leaf) new at.leaf at.past) × (cleared tree new ≡ cleared tree old)

-- From the visit where it stood, the search came to the next one, or there is none and the slots are at 0.
pub record Steps (t : Tests) (tree : Tree) (pairs : List Pair) (path : List ℕ) (leaf : ℕ) (old new : List ℕ) (found : Option Stand) : Type 0 where
  pub goes : NextIs t tree pairs path leaf old new found
