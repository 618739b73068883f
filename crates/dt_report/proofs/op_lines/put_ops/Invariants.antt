use Rattle.std.proofs.Common.{◌≡◌, ℕ, ◌++◌, take}
use Rattle.std.specs.List.{flat_map}
use Rattle.dt_plan.specs.declared.ops.Op.{Op}
use Rattle.dt_report.specs.PlanText.{op_line}
use Rattle.dt_report.proofs.Enumerated.{enumerated}
use Rattle.dt_report.proofs.op_lines.put_ops.Given as goal

abbrev pub invariant-loop-number : goal.invariant-loop-number
invariant-loop-number l = l.out ≡ l.fn.out ++ flat_map (λ (x : ℕ × Op). op_line l.parts x.0 x.1) (take l.number (enumerated l.ops))
