use Rattle.std.proofs.Common.{◌≡◌, length}
use Rattle.dt_bench.proofs.leaves.number.Given as goal

abbrev pub invariant-loop-pos : goal.invariant-loop-pos
invariant-loop-pos l = length l.mem ≡ length l.fn.mem

abbrev pub invariant-loop-interval : goal.invariant-loop-interval
invariant-loop-interval l = length l.mem ≡ length l.fn.mem
