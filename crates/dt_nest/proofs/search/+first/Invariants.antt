use Rattle.std.proofs.Common.{◌≡◌, ◌+◌, ◌*◌, ◌-◌, ℕ, List, [], length}
use Rattle.std.specs.List.{flat_map, range_with_len}
use Rattle.dt_nest.specs.Tree.{tree_of, size_of}
use Rattle.dt_nest.specs.Naming.{pairs_in}
use Rattle.dt_nest.specs.Cursor.{HasRoom}
use Rattle.dt_nest.specs.Search.{step_of}
use Rattle.dt_nest.specs.Visits.{scoped}
use Rattle.dt_nest.proofs.search.+first.Given as goal

abbrev pub decreases-first : goal.decreases-first
decreases-first g l = 4 * size_of (tree_of l.nest.now)

abbrev pub decreases-first_in_loop : goal.decreases-first_in_loop
decreases-first_in_loop g l = 4 * size_of (tree_of l.head.now.body.now) + 3

abbrev pub decreases-first_in_branches : goal.decreases-first_in_branches
decreases-first_in_branches g l = 4 * (size_of (tree_of l.branches.now.producer.now) + size_of (tree_of l.branches.now.consumer.now)) + 1

abbrev pub decreases-enter : goal.decreases-enter
decreases-enter g l = 4 * size_of (tree_of l.head.now.body.now) + 1

abbrev pub decreases-first_from : goal.decreases-first_from
decreases-first_from g l = 4 * size_of (tree_of l.head.now.body.now) + 2

abbrev pub invariant-first_from-loop-i : goal.invariant-first_from-loop-i
invariant-first_from-loop-i g l = (l.cursor.slots.items ≡ l.initial.cursor.slots.items) × ((around : List ℕ) → flat_map (step_of (g.T.Testing.tests l.route.tests.now) l.head.walk.now l.head.var (tree_of l.head.body.now) (scoped (pairs_in l.route.naming.now) around) l.cursor.slots.items l.route.path.now) (range_with_len l.from (l.i - l.from)) ≡ []) × HasRoom l.cursor (g.T.Testing.room l.route.tests.now)
