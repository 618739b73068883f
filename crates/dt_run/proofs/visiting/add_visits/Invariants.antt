use Rattle.std.proofs.Common.{◌≡◌, length, []}
use Rattle.dt_nest.specs.Run.{run_over}
use Rattle.dt_run.specs.Visiting.{HasGoneOn}
use Rattle.dt_run.proofs.visiting.add_visits.Given as goal

abbrev pub invariant-visits : goal.invariant-visits
invariant-visits g l = record {
  gone : HasGoneOn (run_over (g.L.Locator.tensors l.fn.loc) l.fn.sched []) l.visits l.fn.tensors.items l.tensors.items;
  room : length l.values ≡ length l.fn.sched.names;
}

abbrev pub decreases-visits : goal.decreases-visits
decreases-visits g l = length l.visits.left
