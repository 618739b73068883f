use Rattle.std.proofs.Common.{◌≡◌, map, take}
use Rattle.std.specs.Prelude.{fold, max}
use Rattle.dt_nest.specs.Paths.{depth_of}
use Rattle.dt_plan.proofs.moved.greatest_depth.Given as goal

abbrev pub invariant-loop-tensor : goal.invariant-loop-tensor
invariant-loop-tensor l = l.greatest ≡ fold max 0 (map (depth_of l.sched) (take l.tensor-index l.tensors))
