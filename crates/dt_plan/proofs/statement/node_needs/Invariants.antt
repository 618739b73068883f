use Rattle.std.proofs.Common.{◌≡◌, map, take}
use Rattle.dt_plan.specs.Statements.{work_need}
use Rattle.dt_plan.proofs.statement.node_needs.Given as goal

abbrev pub invariant-loop-number : goal.invariant-loop-number
invariant-loop-number g l = l.items.items ≡ map (work_need l.statement) (take l.number-index l.number-items)
