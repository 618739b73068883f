use Rattle.std.proofs.Common.{◌≡◌, take}
use Rattle.dt_rewrite.specs.Communicates.{moves_at}
use Rattle.dt_rewrite.proofs.communicates.Communicate.moves.Given as goal

abbrev pub invariant-loop-tensor : goal.invariant-loop-tensor
invariant-loop-tensor l = l.moves ≡ moves_at l.self.var (take l.tensor-index l.self.tensors)
