use Rattle.std.proofs.Common.{◌≡◌, map}
use Rattle.dt_base.specs.Ranges.{below}
use Rattle.dt_tensor.specs.Packed.{index_at, number_in}
use Rattle.dt_tensor.proofs.tensor.Tensor.to_whole.Given as goal

abbrev pub invariant-loop-number : goal.invariant-loop-number
invariant-loop-number l = l.values.items ≡ map (λ n. number_in l.self (index_at l.self.extents n)) (below l.number)
