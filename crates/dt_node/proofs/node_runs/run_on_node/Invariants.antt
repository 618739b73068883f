use Rattle.std.proofs.Common.{◌≡◌, length, []}
use Rattle.dt_nest.specs.Visits.{visits_of}
use Rattle.dt_bounds.specs.TaskUnits.{units_after}
use Rattle.dt_leaf.specs.NodeWords.{LeavesRest, cells_in}
use Rattle.dt_node.specs.Nodes.{IsReady}
use Rattle.dt_node.proofs.node_runs.run_on_node.Given as goal

abbrev pub invariant-visits : goal.invariant-visits
invariant-visits g l = record {
  ready : IsReady (g.L.Locator.tensors l.fn.loc) l.fn.sched l.visits (cells_in l.mem l.fn.slots);
  after : units_after (g.L.Locator.tensors l.fn.loc) l.fn.sched l.visits.left (cells_in l.mem l.fn.slots) ≡ units_after (g.L.Locator.tensors l.fn.loc) l.fn.sched (visits_of (g.L.Locator.tensors l.fn.loc) l.fn.sched []) (cells_in l.fn.mem l.fn.slots);
  rest : LeavesRest l.fn.slots l.fn.mem l.mem;
  room : length l.values ≡ length l.fn.sched.names;
}

abbrev pub decreases-visits : goal.decreases-visits
decreases-visits g l = length l.visits.left
