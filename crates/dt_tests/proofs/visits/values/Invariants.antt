use Rattle.std.proofs.Common.{length}
use Rattle.dt_tests.proofs.visits.values.Given as goal

abbrev pub decreases-loop-list : goal.decreases-loop-list
decreases-loop-list l = length l.visits.left
