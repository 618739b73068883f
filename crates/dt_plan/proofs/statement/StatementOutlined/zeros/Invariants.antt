use Rattle.std.proofs.Common.{◌≡◌}
use Rattle.std.specs.List.{flat_map}
use Rattle.dt_base.specs.Ranges.{below}
use Rattle.dt_plan.specs.Statements.{outline_at}
use Rattle.dt_plan.proofs.statement.StatementOutlined.zeros.Given as goal

abbrev pub invariant-loop-node : goal.invariant-loop-node
invariant-loop-node g l = l.ops ≡ flat_map (outline_at l.self).zeros (below l.node)
