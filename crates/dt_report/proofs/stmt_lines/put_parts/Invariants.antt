use Rattle.std.proofs.Common.{◌≡◌, ℕ, List, ◌++◌, take}
use Rattle.std.specs.List.{flat_map, zip}
use Rattle.dt_plan.specs.declared.parts.Part.{Part}
use Rattle.dt_report.specs.PlanText.{part_text}
use Rattle.dt_report.proofs.Enumerated.{enumerated}
use Rattle.dt_report.proofs.stmt_lines.put_parts.Given as goal

abbrev pub invariant-loop-number : goal.invariant-loop-number
invariant-loop-number l = l.out ≡ l.fn.out ++ flat_map (λ (x : ℕ × (Part × List ℕ)). part_text x.0 x.1.0 x.1.1) (take l.number (enumerated (zip l.parts l.heads)))
