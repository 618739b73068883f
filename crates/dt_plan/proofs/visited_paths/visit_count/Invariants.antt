use Rattle.std.proofs.Common.{◌≡◌, ◌+◌, length}
use Rattle.dt_nest.specs.Visits.{visits_of}
use Rattle.dt_plan.proofs.visited_paths.visit_count.Given as goal

abbrev pub invariant-loop-visits : goal.invariant-loop-visits
invariant-loop-visits g l = l.count + length l.visits.left ≡ length (visits_of (g.L.Locator.tensors l.loc) l.sched l.path)

abbrev pub decreases-loop-visits : goal.decreases-loop-visits
decreases-loop-visits g l = length l.visits.left
