use Rattle.std.proofs.Common.{◌≡◌, ◌++◌, map}
use Rattle.dt_base.specs.Ranges.{below}
use Rattle.dt_plan.specs.declared.touches.Buffer.TheVariants.{Home}
use Rattle.dt_plan.proofs.job_ops.push_homes.Given as goal

abbrev pub invariant-loop-tensor : goal.invariant-loop-tensor
invariant-loop-tensor l = l.buffers.items ≡ l.fn.buffers.items ++ map Home (below l.tensor)
