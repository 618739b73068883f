use Rattle.std.proofs.Common.{length}
use Rattle.dt_nest.proofs.guards.+prefix.Given as goal

abbrev pub decreases-prefix : goal.decreases-prefix
decreases-prefix l = length l.vars.now
