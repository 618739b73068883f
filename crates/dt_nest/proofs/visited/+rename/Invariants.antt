use Rattle.std.proofs.Common.{length}
use Rattle.dt_nest.proofs.visited.+rename.Given as goal

abbrev pub decreases-rename : goal.decreases-rename
decreases-rename l = length l.pairs.now
