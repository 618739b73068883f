use Rattle.std.proofs.Common.{◌≡◌, ◌++◌, take}
use Rattle.std.specs.List.{flat_map}
use Rattle.dt_report.specs.PlanText.{derive_line}
use Rattle.dt_report.proofs.stmt_lines.put_derive_lines.Given as goal

abbrev pub invariant-loop-derived : goal.invariant-loop-derived
invariant-loop-derived l = l.out ≡ l.fn.out ++ flat_map (derive_line l.number l.sched) (take l.derived-index l.derives)
