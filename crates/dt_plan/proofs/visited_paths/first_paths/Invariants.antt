use Rattle.std.proofs.Common.{◌≡◌}
use Rattle.dt_nest.specs.Paths.{paths_of}
use Rattle.dt_plan.proofs.visited_paths.first_paths.Given as goal

abbrev pub invariant-loop-loops : goal.invariant-loop-loops
invariant-loop-loops g l = l.paths ≡ paths_of (g.L.Locator.tensors l.loc) l.sched l.loops
