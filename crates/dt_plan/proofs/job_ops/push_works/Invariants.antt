use Rattle.std.proofs.Common.{◌≡◌, ◌++◌, map}
use Rattle.dt_base.specs.Ranges.{below}
use Rattle.dt_plan.specs.declared.touches.Buffer.TheVariants.{Work}
use Rattle.dt_plan.proofs.job_ops.push_works.Given as goal

abbrev pub invariant-loop-work : goal.invariant-loop-work
invariant-loop-work l = l.buffers.items ≡ l.fn.buffers.items ++ map (Work l.stmt) (below l.work)
