use Rattle.std.proofs.Common.{length}
use Rattle.dt_leaf.proofs.words.+row_of.Given as goal

abbrev pub decreases-row_of : goal.decreases-row_of
decreases-row_of l = length l.extents.now
