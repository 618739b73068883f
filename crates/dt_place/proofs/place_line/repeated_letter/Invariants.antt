use Rattle.std.proofs.Common.{◌≡◌, [], drop, take}
use Rattle.dt_place.specs.PlaceLine.{repeated_after}
use Rattle.dt_place.proofs.place_line.repeated_letter.Given as goal

abbrev pub invariant-loop-i : goal.invariant-loop-i
invariant-loop-i l = repeated_after (take l.i l.letters) (drop l.i l.letters) ≡ repeated_after [] l.letters
