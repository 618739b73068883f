use Rattle.std.proofs.Common.{◌≡◌, ◌++◌, take}
use Rattle.std.specs.List.{flat_map}
use Rattle.dt_report.specs.PlanText.{event_line}
use Rattle.dt_report.proofs.plan_lines.put_events.Given as goal

abbrev pub invariant-loop-pair : goal.invariant-loop-pair
invariant-loop-pair l = l.out ≡ l.fn.out ++ flat_map event_line (take l.pair-index l.pairs)
