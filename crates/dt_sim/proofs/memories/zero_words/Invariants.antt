use Rattle.std.proofs.Common.{take}
use Rattle.dt_sim.specs.UnitsDone.{Zeroes}
use Rattle.dt_sim.proofs.memories.zero_words.Given as goal

abbrev pub invariant-loop-k : goal.invariant-loop-k
invariant-loop-k l = Zeroes l.fn.node l.fn.buf (take l.k l.fn.words) l.fn.mems.items l.mems.items
