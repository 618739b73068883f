-- The visits of a schedule's nest, and the words that they need.
use Rattle.std.specs.Prelude.{◌≡◌, ℕ, ◌<◌, Bool, false, ◌&&◌, List, [], ◌∷◌, ◌++◌, length, map, filter, drop, replicate, Option, Some, None, if◌then◌else◌, nat_eq, slice_index, slice_set}
use Rattle.std.specs.List.{flat_map, list_any, range_with_len}
use Rattle.std.specs.Str.{bytes_eq}
use Rattle.dt_base.specs.Ranges.{below}
use Rattle.dt_model.specs.Positions.{StoredTensor, coords_at, tensor_at}
use Rattle.dt_model.specs.declared.stmt.Access.{Access}
use Rattle.dt_model.specs.declared.stmt.Term.{Term}
use Rattle.dt_nest.specs.declared.loops.Walk.{Walk}
use Rattle.dt_nest.specs.declared.loops.Pair.{Pair}
use Rattle.dt_nest.specs.declared.loops.Kernel.{Kernel}
use Rattle.dt_nest.specs.declared.derivations.Derived.{Derived}
use Rattle.dt_nest.specs.Tree.{Tree, Loop, Pre, Leaf, is_kernel_leaf, read_accesses}
use Rattle.dt_nest.specs.Schedule.{Schedule}
use Rattle.dt_nest.specs.Meaning.{World, Env, val_of, renamed, guards_hold, takes}
use Rattle.dt_nest.specs.World.{world_of}

-- the parts of a leaf
pub record LeafNode : Type 0 where
  pub lhs : Access
  pub terms : List Term
  pub guards : List ℕ
  pub kernel : Kernel

-- the leaf with these parts
abbrev pub leaf_node : Access → List Term → List ℕ → Kernel → LeafNode
leaf_node lhs terms guards kernel = record { lhs = lhs; terms = terms; guards = guards; kernel = kernel }

-- a substituted loop at a visit, and its valid values, ascending
pub record Lanes : Type 0 where
  pub var : ℕ
  pub extent : ℕ
  pub valid : List ℕ

-- the renamings in force at a tree, outermost first, and the loops that are entered there, innermost first
pub record Scope : Type 0 where
  pub pairs : List Pair
  pub around : List ℕ

-- these renamings and loops
abbrev pub scoped : List Pair → List ℕ → Scope
scoped pairs around = record { pairs = pairs; around = around }

-- the scope of a whole nest
abbrev pub at_root : Scope
at_root = scoped [] []

-- the scope of a loop's body
abbrev pub entered : Scope → ℕ → Scope
entered scope v = scoped scope.pairs (v ∷ scope.around)

-- the scope of a producer with more renamings
abbrev pub in_producer : Scope → List Pair → Scope
in_producer scope more = scoped (scope.pairs ++ more) scope.around

-- A visit of a leaf: the loops that are entered, innermost first, without a substituted one, the renamings in force,
-- outermost first, one slot per name of a loop or variable, which has the value of a loop that is entered, and the
-- substituted loop, if there is one.
pub record LeafVisit : Type 0 where
  pub leaf : LeafNode
  pub around : List ℕ
  pub pairs : List Pair
  pub slots : List ℕ
  pub lanes : Option Lanes

-- one item of the list of visits: a reset of a workspace, or a visit of a leaf
pub data Item : Type 0 where
  IsReset : (work : ℕ) → Item
  IsVisit : (visit : LeafVisit) → Item

-- the value of each variable, where these renamings are in force and the loops have the values in the slots
abbrev pub value_in : World → List Derived → List Pair → List ℕ → Env
value_in w ds pairs slots = val_of w ds (renamed pairs) (slice_index slots)

-- the tests of visits: whether a loop takes its value, and whether a leaf is visited, where these renamings are in force and the
-- loops have the values in the slots
pub record Tests : Type 0 where
  pub takes : Option Walk → ℕ → List Pair → List ℕ → Bool
  pub holds : LeafNode → List Pair → List ℕ → Bool

-- the tests that a schedule asks for
abbrev pub tests_of : World → List Derived → Tests
tests_of w ds = record {
  takes = λ walk v pairs slots. takes w walk v (renamed pairs) (value_in w ds pairs slots);
  holds = λ leaf pairs slots. guards_hold w (value_in w ds pairs slots) leaf.guards;
}

-- the items, with a reset of the workspace before them if there are any
abbrev pub with_reset : ℕ → List Item → List Item
with_reset work [] = []
with_reset work (item ∷ items) = IsReset work ∷ item ∷ items

-- the values that a loop goes through: those below its extent, or the one that the path gives
abbrev pub values_on : List ℕ → ℕ → List ℕ
values_on [] n = range_with_len 0 n
values_on (x ∷ path) n = x ∷ []

-- one visit of a leaf in a substituted loop, if the loop has a valid value
abbrev pub lane_visit : LeafNode → Scope → List ℕ → ℕ → ℕ → List ℕ → List Item
lane_visit leaf scope slots v n [] = []
lane_visit leaf scope slots v n (x ∷ valid) =
    IsVisit (record { leaf = leaf; around = scope.around; pairs = scope.pairs; slots = slots; lanes = Some (record { var = v; extent = n; valid = x ∷ valid }) }) ∷ []

-- whether a substituted loop may have the value x: it takes the value, and its leaf is visited
abbrev pub is_valid : Tests → Option Walk → ℕ → LeafNode → List Pair → List ℕ → ℕ → Bool
is_valid t walk v leaf pairs slots x = t.takes walk v pairs (slice_set slots v x) && t.holds leaf pairs (slice_set slots v x)

-- the valid values of a substituted loop, ascending
abbrev pub valid_values : Tests → Option Walk → ℕ → ℕ → LeafNode → List Pair → List ℕ → List ℕ
valid_values t walk v n leaf pairs slots = filter (is_valid t walk v leaf pairs slots) (range_with_len 0 n)

-- the visit of a substituted loop over a leaf
abbrev pub substituted_visits : Tests → Option Walk → ℕ → ℕ → Tree → Scope → List ℕ → List Item
substituted_visits t walk v n (Loop u m inner body) scope slots = []
substituted_visits t walk v n (Pre work more producer consumer) scope slots = []
substituted_visits t walk v n (Leaf lhs terms guards kernel) scope slots =
    lane_visit (leaf_node lhs terms guards kernel) scope slots v n (valid_values t walk v n (leaf_node lhs terms guards kernel) scope.pairs slots)

-- The visits of a tree that extend a path, where the slots have the values of the loops around. A loop gives those of its
-- body for each value that it takes, in ascending order, and a precompute node those of its producer and then those of
-- its consumer.
abbrev pub tree_visits : Tests → Tree → Scope → List ℕ → List ℕ → List Item
tree_visits t (Loop v n walk body) scope slots path =
    if is_kernel_leaf body then substituted_visits t walk v n body scope slots
    else flat_map (λ i. if t.takes walk v scope.pairs (slice_set slots v i) then tree_visits t body (entered scope v) (slice_set slots v i) (drop 1 path) else []) (values_on path n)
tree_visits t (Pre work more producer consumer) scope slots path =
    with_reset work (tree_visits t producer (in_producer scope more) slots [] ++ tree_visits t consumer scope slots [])
tree_visits t (Leaf lhs terms guards kernel) scope slots path =
    if t.holds (leaf_node lhs terms guards kernel) scope.pairs slots
    then IsVisit (record { leaf = leaf_node lhs terms guards kernel; around = scope.around; pairs = scope.pairs; slots = slots; lanes = None }) ∷ []
    else []

-- the slots before any loop is entered
abbrev pub no_slots : Schedule → List ℕ
no_slots s = replicate (length s.names) 0

-- the visits of a schedule's nest that extend a path
unfoldable pub visits_of : List StoredTensor → Schedule → List ℕ → List Item
visits_of stored s path = tree_visits (tests_of (world_of stored s) s.derived) s.nest at_root (no_slots s) path

-- A path is some values of the outermost loops, each below its extent; none of them is substituted or inside a
-- precompute node.
abbrev pub IsPathIn : Tree → List ℕ → Type 0
IsPathIn tree [] = Unit {0}
IsPathIn (Loop v n walk body) (x ∷ path) = (x < n) × (is_kernel_leaf body ≡ false) × IsPathIn body path
IsPathIn (Pre work pairs producer consumer) (x ∷ path) = ⊥
IsPathIn (Leaf lhs terms guards kernel) (x ∷ path) = ⊥

-- a path in the schedule's nest
abbrev pub IsPath : Schedule → List ℕ → Type 0
IsPath s path = IsPathIn s.nest path

-- the slots of a visit, one list for each valid value of its substituted loop
abbrev pub slots_of : List ℕ → Option Lanes → List (List ℕ)
slots_of slots None = slots ∷ []
slots_of slots (Some lanes) = map (λ x. slice_set slots lanes.var x) lanes.valid

-- the values of the variables at a visit, one environment for each valid value
abbrev pub environments : World → List Derived → LeafVisit → List Env
environments w ds visit = map (value_in w ds visit.pairs) (slots_of visit.slots visit.lanes)

-- whether an access of the tensor at these coordinates is among the accesses
abbrev pub is_accessed : ℕ → List ℕ → Env → List Access → Bool
is_accessed tensor c val accesses = list_any (λ a. nat_eq a.tensor tensor && bytes_eq (map val a.vars) c) accesses

-- whether an item reads or writes a tensor at these coordinates
abbrev pub touches : World → List Derived → ℕ → List ℕ → Item → Bool
touches w ds tensor c (IsReset work) = false
touches w ds tensor c (IsVisit visit) = list_any (λ val. is_accessed tensor c val (visit.leaf.lhs ∷ read_accesses visit.leaf.terms)) (environments w ds visit)

-- the positions of a tensor, ascending, that are read or written in visits that extend a path
unfoldable pub needed_of : List StoredTensor → Schedule → ℕ → List ℕ → List ℕ
needed_of stored s tensor path =
    filter (λ p. list_any (touches (world_of stored s) s.derived tensor (coords_at (tensor_at stored tensor) p)) (visits_of stored s path)) (below (length (tensor_at stored tensor).coords))
