use Rattle.std.proofs.Common.{length}
use Rattle.dt_cuts.proofs.in_place.+around.Given as goal

abbrev pub decreases-around : goal.decreases-around
decreases-around l = length l.heads.now
