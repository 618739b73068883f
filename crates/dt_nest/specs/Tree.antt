-- A nest without the places of its boxes, and what stands in it.
use Rattle.std.specs.Prelude.{ℕ, ◌+◌, Bool, true, false, ◌||◌, List, [], ◌∷◌, ◌++◌, Option, nat_eq, if◌then◌else◌}
use Rattle.std.specs.List.{flat_map}
use Rattle.dt_model.specs.declared.stmt.Access.{Access}
use Rattle.dt_model.specs.declared.stmt.Factor.{Factor}
use Rattle.dt_model.specs.declared.stmt.Factor.TheVariants.{Read, Literal}
use Rattle.dt_model.specs.declared.stmt.Term.{Term}
use Rattle.dt_nest.specs.declared.loops.Walk.{Walk}
use Rattle.dt_nest.specs.declared.loops.Pair.{Pair}
use Rattle.dt_nest.specs.declared.loops.Kernel.{Kernel}
use Rattle.dt_nest.specs.declared.loops.Kernel.TheVariants.{Plain, Dot, Dot3}
use Rattle.dt_nest.specs.declared.loops.Nest.{Nest}
use Rattle.dt_nest.specs.declared.loops.Nest.TheVariants as n

-- a loop around a tree, a precompute node with its producer and consumer, or a leaf
pub data Tree : Type 0 where
  Loop : (var extent : ℕ) (walk : Option Walk) (body : Tree) → Tree
  Pre : (work : ℕ) (pairs : List Pair) (producer consumer : Tree) → Tree
  Leaf : (lhs : Access) (terms : List Term) (guards : List ℕ) (kernel : Kernel) → Tree

-- the tree that a nest is
abbrev pub tree_of : Nest → Tree
tree_of (n.Loop' v extent walk p body) = Loop v extent walk (tree_of body)
tree_of (n.Pre' work pairs p producer q consumer) = Pre work pairs (tree_of producer) (tree_of consumer)
tree_of (n.Leaf lhs terms guards kernel) = Leaf lhs terms guards kernel

-- the number of loops, those of both branches of a precompute node
abbrev pub loop_count : Tree → ℕ
loop_count (Loop v extent walk body) = loop_count body + 1
loop_count (Pre work pairs producer consumer) = loop_count producer + loop_count consumer
loop_count (Leaf lhs terms guards kernel) = 0

-- the number of nodes
abbrev pub size_of : Tree → ℕ
size_of (Loop v extent walk body) = size_of body + 1
size_of (Pre work pairs producer consumer) = size_of producer + size_of consumer + 1
size_of (Leaf lhs terms guards kernel) = 1

-- the number of leaves
abbrev pub leaf_count : Tree → ℕ
leaf_count (Loop v extent walk body) = leaf_count body
leaf_count (Pre work pairs producer consumer) = leaf_count producer + leaf_count consumer
leaf_count (Leaf lhs terms guards kernel) = 1

-- how often v is a loop
abbrev pub times : ℕ → Tree → ℕ
times v (Loop u extent walk body) = (if nat_eq u v then 1 else 0) + times v body
times v (Pre work pairs producer consumer) = times v producer + times v consumer
times v (Leaf lhs terms guards kernel) = 0

-- whether v is a loop
abbrev pub has_loop : ℕ → Tree → Bool
has_loop v (Loop u extent walk body) = nat_eq u v || has_loop v body
has_loop v (Pre work pairs producer consumer) = has_loop v producer || has_loop v consumer
has_loop v (Leaf lhs terms guards kernel) = false

-- whether a stored kernel does the products
abbrev pub is_stored_kernel : Kernel → Bool
is_stored_kernel Plain = false
is_stored_kernel Dot = true
is_stored_kernel Dot3 = true

-- whether the tree is a leaf with a stored kernel; a loop around it is substituted
abbrev pub is_kernel_leaf : Tree → Bool
is_kernel_leaf (Loop v extent walk body) = false
is_kernel_leaf (Pre work pairs producer consumer) = false
is_kernel_leaf (Leaf lhs terms guards kernel) = is_stored_kernel kernel

-- the access that a factor is
abbrev pub factor_accesses : Factor → List Access
factor_accesses (Read a) = a ∷ []
factor_accesses (Literal x) = []

-- the accesses that terms read
abbrev pub read_accesses : List Term → List Access
read_accesses terms = flat_map (λ t. flat_map factor_accesses t.factors) terms

-- the accesses of all leaves
abbrev pub accesses_of : Tree → List Access
accesses_of (Loop v extent walk body) = accesses_of body
accesses_of (Pre work pairs producer consumer) = accesses_of producer ++ accesses_of consumer
accesses_of (Leaf lhs terms guards kernel) = lhs ∷ read_accesses terms
