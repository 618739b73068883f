use Rattle.std.proofs.Common.{◌≡◌, ◌/◌, map, take}
use Rattle.dt_tensor.proofs.packing.fronts_of.Given as goal

abbrev pub invariant-loop-number : goal.invariant-loop-number
invariant-loop-number l = l.fronts.items ≡ map (λ n. n / l.size) (take l.number-index l.fn.numbers.items)
