use Rattle.std.proofs.Common.{take}
use Rattle.dt_run.specs.EveryOrder.{AreWords}
use Rattle.dt_run.proofs.accepting.have_words.Given as goal

abbrev pub invariant-loop-tensor : goal.invariant-loop-tensor
invariant-loop-tensor l = AreWords (take l.tensor-index l.tensors)
