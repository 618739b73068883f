use Rattle.std.proofs.Common.{◌≡◌, [], take, drop}
use Rattle.dt_nest.specs.Schedule.{seen}
use Rattle.dt_rewrite.specs.Communicates.{communicated_tensor}
use Rattle.dt_rewrite.proofs.communicates.communicated_tensor.Given as goal

abbrev pub invariant-loop-at : goal.invariant-loop-at
invariant-loop-at l = communicated_tensor (seen l.parts) (take l.at l.tensors) (drop l.at l.tensors) ≡ communicated_tensor (seen l.parts) [] l.tensors
