use Rattle.std.proofs.Common.{◌≡◌, length}
use Rattle.dt_level.specs.Segments.{never_falls}
use Rattle.dt_level.proofs.parts.never_falls.Given as goal

abbrev pub invariant-loop-rest : goal.invariant-loop-rest
invariant-loop-rest l = never_falls l.rest ≡ never_falls l.numbers

abbrev pub decreases-loop-rest : goal.decreases-loop-rest
decreases-loop-rest l = length l.rest
