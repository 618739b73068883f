use Rattle.std.proofs.Common.{take}
use Rattle.dt_leaf.specs.Clearing.{Clears, buffer_words}
use Rattle.dt_leaf.proofs.visiting.clear.Given as goal

abbrev pub invariant-loop-k : goal.invariant-loop-k
invariant-loop-k l = Clears l.fn.buf (take l.k (buffer_words l.fn.mem l.fn.buf)) l.fn.mem l.mem
