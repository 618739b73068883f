use Rattle.std.proofs.Common.{length}
use Rattle.dt_nest.proofs.questions.+terms_access.Given as goal

abbrev pub decreases-terms_access : goal.decreases-terms_access
decreases-terms_access l = length l.terms.now
