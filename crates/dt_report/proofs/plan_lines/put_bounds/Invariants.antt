use Rattle.std.proofs.Common.{◌≡◌, ◌++◌}
use Rattle.std.specs.Prelude.{slice_index}
use Rattle.std.specs.List.{flat_map}
use Rattle.dt_base.specs.Ranges.{below}
use Rattle.dt_report.specs.PlanText.{bound_line}
use Rattle.dt_report.proofs.plan_lines.put_bounds.Given as goal

abbrev pub invariant-loop-node : goal.invariant-loop-node
invariant-loop-node l = l.out ≡ l.fn.out ++ flat_map (λ n. bound_line n (slice_index l.plan.bounds n)) (below l.node)
