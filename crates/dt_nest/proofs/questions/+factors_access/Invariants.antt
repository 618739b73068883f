use Rattle.std.proofs.Common.{length}
use Rattle.dt_nest.proofs.questions.+factors_access.Given as goal

abbrev pub decreases-factors_access : goal.decreases-factors_access
decreases-factors_access l = length l.factors.now
