use Rattle.std.proofs.Common.{◌≡◌, [], drop, take}
use Rattle.dt_model.proofs.Fronts.{with_front}
use Rattle.dt_place.specs.PlaceLine.{level_symbols}
use Rattle.dt_place.proofs.place_line.read_level.Given as goal

abbrev pub invariant-loop-i : goal.invariant-loop-i
invariant-loop-i l = with_front l.symbols (level_symbols l.letters (take l.i l.level) (drop l.i l.level)) ≡ level_symbols l.letters [] l.level
