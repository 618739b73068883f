use Rattle.std.proofs.Common.{length}
use Rattle.dt_rewrite.proofs.distributes.+wrong_extent.Given as goal

abbrev pub decreases-wrong_extent : goal.decreases-wrong_extent
decreases-wrong_extent l = length l.vars.now
