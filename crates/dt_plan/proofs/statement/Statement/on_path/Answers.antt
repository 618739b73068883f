use Rattle.std.proofs.Common.{◌≡◌, ap, ◌∙◌, arith}
use Rattle.dt_place.specs.Machines.{nodes_of}
use Rattle.dt_plan.specs.Layouts.{Layout}
use Rattle.dt_plan.specs.Statements.{StatementView}
use Rattle.dt_plan.proofs.StatementFacts.{homes_on_node}
use Rattle.dt_plan.proofs.statement.Statement.on_path.Goals as goal

pub invariant_of-result : goal.invariant_of-result
invariant_of-result g c =
    let same : nodes_of c.layout.inside.machine.now ≡ nodes_of c.args.self.now.layout.machine = ap (λ (l : Layout). nodes_of l.machine) c.layout.view_is ∙ ap (λ (v : StatementView). nodes_of v.layout.machine) c.self.view_is in
    let within = c.node_of.ensures.within in
    homes_on_node _ c.layout.invariant c.node_of.result (omega (arith, same, within))
