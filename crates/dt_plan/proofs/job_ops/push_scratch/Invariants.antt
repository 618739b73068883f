use Rattle.std.proofs.Common.{◌≡◌, ◌++◌, map, take}
use Rattle.dt_plan.specs.declared.touches.Buffer.TheVariants.{Scratch}
use Rattle.dt_plan.proofs.job_ops.push_scratch.Given as goal

abbrev pub invariant-loop-tensor : goal.invariant-loop-tensor
invariant-loop-tensor l = l.buffers.items ≡ l.fn.buffers.items ++ map (Scratch l.stmt) (take l.tensor-index l.tensor-items)
