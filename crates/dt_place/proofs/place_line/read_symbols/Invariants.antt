use Rattle.std.proofs.Common.{◌≡◌, drop}
use Rattle.dt_model.proofs.Fronts.{with_front}
use Rattle.dt_place.specs.PlaceLine.{symbols_of}
use Rattle.dt_place.proofs.place_line.read_symbols.Given as goal

abbrev pub invariant-loop-level : goal.invariant-loop-level
invariant-loop-level l = with_front l.symbols (symbols_of l.letters (drop l.level-index l.levels)) ≡ symbols_of l.letters l.levels
