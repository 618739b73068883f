use Rattle.std.proofs.Common.{◌≡◌, ℕ, ◌%◌, ◌^◌, sum_by, take}
use Rattle.dt_mem.proofs.parts.ring_sum.Given as goal

abbrev pub invariant-loop-value : goal.invariant-loop-value
invariant-loop-value l = l.total ≡ sum_by (λ (v : ℕ). v) (take l.value-index l.values) % 2 ^ 64
