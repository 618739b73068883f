use Rattle.std.proofs.Common.{length}
use Rattle.dt_bench.proofs.walk.leaves.Given as goal

abbrev pub decreases-loop-visits : goal.decreases-loop-visits
decreases-loop-visits l = length l.visits.left
