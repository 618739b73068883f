use Rattle.std.proofs.Common.{◌≡◌, false, length}
use Rattle.std.specs.List.{list_any, range_with_len}
use Rattle.dt_nest.specs.Tree.{tree_of}
use Rattle.dt_nest.specs.Naming.{pairs_in}
use Rattle.dt_nest.specs.Visits.{is_valid}
use Rattle.dt_nest.specs.Cursor.{HasRoom}
use Rattle.dt_nest.specs.Search.{node_of}
use Rattle.dt_nest.proofs.search.has_lane.Given as goal

abbrev pub invariant-loop-x : goal.invariant-loop-x
invariant-loop-x g l = (l.cursor.slots.items ≡ l.initial.cursor.slots.items) × (list_any (is_valid (g.T.Testing.tests l.route.tests.now) l.head.walk.now l.head.var (node_of (tree_of l.head.body.now)) (pairs_in l.route.naming.now) l.cursor.slots.items) (range_with_len 0 l.x) ≡ false) × HasRoom l.cursor (g.T.Testing.room l.route.tests.now)
