-- The inner loops of a nest, those just around its last leaf, which turn as the digits of a counter do: at each step the innermost
-- one that is not at its last value goes on, and those inside it start again.
use Rattle.std.specs.Prelude.{◌≡◌, ℕ, ◌+◌, ◌-◌, ◌<◌, Bool, false, List, [], ◌∷◌, ◌++◌, not, Option, Some, None, option_map, if◌then◌else◌, nat_eq, nat_lt, length, take, slice_index, slice_index_or, slice_set}
use Rattle.dt_nest.specs.declared.inner_loops.InnerLoop.{InnerLoop}
use Rattle.dt_nest.specs.declared.inner_loops.InnerLoops.{InnerLoops}
use Rattle.std.specs.List.{list_any}
use Rattle.dt_nest.specs.declared.derivations.Derived.{Derived}
use Rattle.dt_nest.specs.Schedule.{Schedule}
use Rattle.dt_nest.specs.ValueTables.{dependents}
use Rattle.dt_nest.specs.Visits.{LeafNode, leaf_node}
use Rattle.dt_nest.specs.Tree.{Tree, Loop, Pre, Leaf, leaf_count, is_stored_kernel}

-- whether a tree is a leaf in loops that are neither walked nor substituted
abbrev pub is_plain : Tree → Bool
is_plain (Loop v n None body) = is_plain body
is_plain (Loop v n (Some walk) body) = false
is_plain (Pre work more producer consumer) = false
is_plain (Leaf lhs terms guards kernel) = not (is_stored_kernel kernel)

-- the loops down to a leaf or a precompute node, the innermost first
abbrev pub inner_loops_of : Tree → List InnerLoop
inner_loops_of (Loop v n walk body) = inner_loops_of body ++ record { var = v; last = n - 1 } ∷ []
inner_loops_of (Pre work more producer consumer) = []
inner_loops_of (Leaf lhs terms guards kernel) = []

-- the inner loops of a nest: the loops around its last leaf, below a path, up to a loop that is walked or a precompute node
abbrev pub last_inner_loops : Tree → List ℕ → List InnerLoop
last_inner_loops (Loop v n walk body) [] = if is_plain (Loop v n walk body) then inner_loops_of (Loop v n walk body) else last_inner_loops body []
last_inner_loops (Loop v n walk body) (x ∷ path) = last_inner_loops body path
last_inner_loops (Pre work more producer consumer) path = last_inner_loops consumer []
last_inner_loops (Leaf lhs terms guards kernel) path = []

-- the parts of the last leaf
abbrev pub last_node : Tree → LeafNode
last_node (Loop v n walk body) = last_node body
last_node (Pre work more producer consumer) = last_node consumer
last_node (Leaf lhs terms guards kernel) = leaf_node lhs terms guards kernel

-- the slots after a step, where an inner loop can go on
abbrev pub turned : List InnerLoop → List ℕ → Option (List ℕ)
turned [] slots = None
turned (w ∷ ws) slots =
    if nat_lt (slice_index slots w.var) w.last then Some (slice_set slots w.var (slice_index slots w.var + 1))
    else option_map (λ s. slice_set s w.var 0) (turned ws slots)

-- whether a variable is one of the inner loops
abbrev pub is_inner_loop : List InnerLoop → ℕ → Bool
is_inner_loop inner_loops u = list_any (λ w. nat_eq u w.var) inner_loops

-- for each inner loop the derivations whose values follow from it or from the loops inside it
abbrev pub AreDependents : List Derived → List InnerLoop → List (List Derived) → Type 0
AreDependents ds inner_loops lists = (k : ℕ) → k < length inner_loops → slice_index_or lists k [] ≡ dependents ds (is_inner_loop (take (k + 1) inner_loops))

-- the inner loops of a schedule's nest, with the derivations that follow from them, and the guards and the number of its last leaf
pub record AreInnerLoops (s : Schedule) (path : List ℕ) (w : InnerLoops) : Type 0 where
  pub items : w.items.items ≡ last_inner_loops s.nest path
  pub count : length w.derived.items ≡ length w.items.items
  pub derived : AreDependents s.derived w.items.items w.derived.items
  pub guards : w.guards.items ≡ (last_node s.nest).guards
  pub leaf : w.leaf ≡ leaf_count s.nest - 1
