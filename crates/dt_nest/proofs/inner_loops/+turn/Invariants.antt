use Rattle.std.proofs.Common.{length}
use Rattle.dt_nest.proofs.inner_loops.+turn.Given as goal

abbrev pub decreases-turn : goal.decreases-turn
decreases-turn l = length l.inner_loops.now
