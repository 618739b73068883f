use Rattle.std.proofs.Common.{length}
use Rattle.dt_nest.proofs.dependents.+is_inner_loop.Given as goal

abbrev pub decreases-is_inner_loop : goal.decreases-is_inner_loop
decreases-is_inner_loop l = length l.inner_loops.now
