use Rattle.std.proofs.Common.{◌≡◌, length}
use Rattle.dt_level.specs.Segments.{ascends}
use Rattle.dt_level.proofs.parts.ascends.Given as goal

abbrev pub invariant-loop-rest : goal.invariant-loop-rest
invariant-loop-rest l = ascends l.rest ≡ ascends l.numbers

abbrev pub decreases-loop-rest : goal.decreases-loop-rest
decreases-loop-rest l = length l.rest
