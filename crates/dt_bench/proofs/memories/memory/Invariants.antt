use Rattle.std.proofs.Common.{◌<◌, length}
use Rattle.dt_bench.proofs.memories.memory.Given as goal

abbrev pub invariant-loop-k : goal.invariant-loop-k
invariant-loop-k l = 0 < length l.mem

abbrev pub invariant-loop-pos : goal.invariant-loop-pos
invariant-loop-pos l = 0 < length l.mem

abbrev pub invariant-loop-interval : goal.invariant-loop-interval
invariant-loop-interval l = 0 < length l.mem
