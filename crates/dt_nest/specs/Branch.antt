-- What stands on the way to a leaf of a nest, by the leaf's number from the left.
use Rattle.std.specs.Prelude.{ℕ, ◌-◌, Bool, false, List, ◌∷◌, ◌++◌, Option, Some, None, if◌then◌else◌, nat_lt}
use Rattle.dt_nest.specs.declared.loops.Pair.{Pair}
use Rattle.dt_nest.specs.declared.branches.Substituted.{Substituted}
use Rattle.dt_nest.specs.Tree.{Tree, Loop, Pre, Leaf, leaf_count, is_kernel_leaf}
use Rattle.dt_nest.specs.Visits.{LeafNode, Lanes, Scope, LeafVisit, Tests, is_valid, valid_values}
use Rattle.dt_nest.specs.Search.{node_of, pairs_at}

-- the leaf
abbrev pub leaf_at : Tree → ℕ → Tree
leaf_at (Loop v n walk body) leaf = leaf_at body leaf
leaf_at (Pre work more producer consumer) leaf =
    if nat_lt leaf (leaf_count producer) then leaf_at producer leaf else leaf_at consumer (leaf - leaf_count producer)
leaf_at (Leaf lhs terms guards kernel) leaf = Leaf lhs terms guards kernel

-- the parts of the leaf
abbrev pub node_at : Tree → ℕ → LeafNode
node_at (Loop v n walk body) leaf = node_at body leaf
node_at (Pre work more producer consumer) leaf =
    if nat_lt leaf (leaf_count producer) then node_at producer leaf else node_at consumer (leaf - leaf_count producer)
node_at (Leaf lhs terms guards kernel) leaf = record { lhs = lhs; terms = terms; guards = guards; kernel = kernel }

-- the tree that is a leaf with these parts
abbrev pub leaf_tree : LeafNode → Tree
leaf_tree node = Leaf node.lhs node.terms node.guards node.kernel

-- the loops around the leaf but a substituted one, the innermost first
abbrev pub loops_at : Tree → List ℕ → ℕ → List ℕ
loops_at (Loop v n walk body) outer leaf = if is_kernel_leaf body then outer else loops_at body (v ∷ outer) leaf
loops_at (Pre work more producer consumer) outer leaf =
    if nat_lt leaf (leaf_count producer) then loops_at producer outer leaf else loops_at consumer outer (leaf - leaf_count producer)
loops_at (Leaf lhs terms guards kernel) outer leaf = outer

-- the substituted loop around the leaf
abbrev pub substituted_at : Tree → ℕ → Option Substituted
substituted_at (Loop v n walk body) leaf = if is_kernel_leaf body then Some (record { var = v; extent = n }) else substituted_at body leaf
substituted_at (Pre work more producer consumer) leaf =
    if nat_lt leaf (leaf_count producer) then substituted_at producer leaf else substituted_at consumer (leaf - leaf_count producer)
substituted_at (Leaf lhs terms guards kernel) leaf = None

-- whether x is a valid value of the substituted loop around the leaf
abbrev pub valid_at : Tests → Tree → List Pair → List ℕ → ℕ → ℕ → Bool
valid_at t (Loop v n walk body) pairs slots leaf x =
    if is_kernel_leaf body then is_valid t walk v (node_of body) pairs slots x else valid_at t body pairs slots leaf x
valid_at t (Pre work more producer consumer) pairs slots leaf x =
    if nat_lt leaf (leaf_count producer) then valid_at t producer (pairs ++ more) slots leaf x else valid_at t consumer pairs slots (leaf - leaf_count producer) x
valid_at t (Leaf lhs terms guards kernel) pairs slots leaf x = false

-- the substituted loop around the leaf, with its valid values
abbrev pub lanes_at : Tests → Tree → List Pair → List ℕ → ℕ → Option Lanes
lanes_at t (Loop v n walk body) pairs slots leaf =
    if is_kernel_leaf body then Some (record { var = v; extent = n; valid = valid_values t walk v n (node_of body) pairs slots })
    else lanes_at t body pairs slots leaf
lanes_at t (Pre work more producer consumer) pairs slots leaf =
    if nat_lt leaf (leaf_count producer) then lanes_at t producer (pairs ++ more) slots leaf else lanes_at t consumer pairs slots (leaf - leaf_count producer)
lanes_at t (Leaf lhs terms guards kernel) pairs slots leaf = None

-- the visit of the leaf with these values of the loops around
abbrev pub visit_at : Tests → Tree → Scope → List ℕ → ℕ → LeafVisit
visit_at t tree scope slots leaf = record {
  leaf = node_at tree leaf;
  around = loops_at tree scope.around leaf;
  pairs = scope.pairs ++ pairs_at tree leaf;
  slots = slots;
  lanes = lanes_at t tree scope.pairs slots leaf;
}
