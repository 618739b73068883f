use Rattle.std.proofs.Common.{List, ◌++◌, ap, ◌∙◌}
use Rattle.dt_copy.proofs.Shared.{one_more}
use Rattle.dt_plan.specs.declared.ops.Op.{Op}
use Rattle.dt_plan.specs.Statements.{outline_at}
use Rattle.dt_plan.proofs.statement.StatementOutlined.zeros.Goals as goal

pub loop-node-preserved : goal.loop-node-preserved
loop-node-preserved g c =
    c.in_ok-push_zero.ensures ∙ ap (λ (l : List Op). l ++ (outline_at c.args.self.now).zeros c.loop-node.node) c.loop-node.invariant ∙ one_more (outline_at c.args.self.now).zeros c.loop-node.node
