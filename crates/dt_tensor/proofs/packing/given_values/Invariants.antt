use Rattle.std.proofs.Common.{◌≡◌, drop, map}
use Rattle.dt_tensor.specs.Packing.{given_at}
use Rattle.dt_tensor.proofs.packing.given_values.Given as goal

abbrev pub invariant-loop-i : goal.invariant-loop-i
invariant-loop-i l = l.values.items ≡ map (given_at (drop l.i l.entries)) l.levels.coords
