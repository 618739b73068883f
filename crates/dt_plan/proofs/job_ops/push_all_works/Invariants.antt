use Rattle.std.proofs.Common.{◌≡◌, ℕ, ◌++◌, length, map, take}
use Rattle.std.specs.List.{flat_map, zip}
use Rattle.dt_base.specs.Ranges.{below}
use Rattle.dt_plan.specs.declared.parts.Part.{Part}
use Rattle.dt_plan.specs.declared.touches.Buffer.TheVariants.{Work}
use Rattle.dt_plan.proofs.job_ops.push_all_works.Given as goal

abbrev pub invariant-loop-stmt : goal.invariant-loop-stmt
invariant-loop-stmt l = l.buffers.items ≡ l.fn.buffers.items ++ flat_map (λ (x : ℕ × Part). map (Work x.0) (below (length x.1.sched.works))) (take l.stmt (zip (below (length l.parts)) l.parts))
