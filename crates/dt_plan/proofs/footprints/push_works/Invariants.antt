use Rattle.std.proofs.Common.{◌≡◌, ◌++◌, map}
use Rattle.dt_base.specs.Ranges.{below}
use Rattle.dt_plan.specs.declared.touches.Buffer.TheVariants.{Work}
use Rattle.dt_plan.specs.Footprints.{whole_buffer}
use Rattle.dt_plan.proofs.footprints.push_works.Given as goal

abbrev pub invariant-loop-work : goal.invariant-loop-work
invariant-loop-work l = l.items.items ≡ l.fn.items.items ++ map (λ w. whole_buffer l.op.node (Work l.op.stmt w)) (below l.work)
