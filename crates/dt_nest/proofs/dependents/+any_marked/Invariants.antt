use Rattle.std.proofs.Common.{length}
use Rattle.dt_nest.proofs.dependents.+any_marked.Given as goal

abbrev pub decreases-any_marked : goal.decreases-any_marked
decreases-any_marked l = length l.vars.now
