use Rattle.std.proofs.Common.{◌≡◌, length}
use Rattle.dt_model.proofs.Fronts.{with_front}
use Rattle.dt_index.specs.Symbols.{symbols_of}
use Rattle.dt_index.proofs.symbols.read_symbols.Given as goal

abbrev pub invariant-loop-symbols : goal.invariant-loop-symbols
invariant-loop-symbols l = with_front l.symbols (symbols_of l.rest) ≡ symbols_of l.text

abbrev pub decreases-loop-symbols : goal.decreases-loop-symbols
decreases-loop-symbols l = length l.rest
