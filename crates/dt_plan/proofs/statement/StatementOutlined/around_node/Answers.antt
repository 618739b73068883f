use Rattle.std.proofs.Common.{◌≡◌, [], ap, ◌∙◌, refl, arith}
use Rattle.dt_place.specs.Machines.{nodes_of}
use Rattle.dt_plan.specs.Layouts.{Layout}
use Rattle.dt_plan.specs.Statements.{StatementView}
use Rattle.dt_plan.proofs.StatementFacts.{homes_on_node, works_opened, works_closed}
use Rattle.dt_plan.proofs.statement.StatementOutlined.around_node.Goals as goal

pub invariant_of-on : goal.invariant_of-on
invariant_of-on g c =
    let same : nodes_of c.layout.inside.machine.now ≡ nodes_of c.args.self.now.layout.machine = ap (λ (l : Layout). nodes_of l.machine) c.layout.view_is ∙ ap (λ (v : StatementView). nodes_of v.layout.machine) c.self.view_is in
    let within = c.requires in
    homes_on_node _ c.layout.invariant c.args.node (omega (arith, same, within))

pub returns-clause-opened : goal.returns-clause-opened
returns-clause-opened g c =
    works_opened c.args.self.now (record { stmt = c.self.inside.number; node = c.args.node; path = []; output = 0; homes = c.layout.inside.homes.now }) c.as_slice.result.now c.in_ok-around.around.opened c.args.node
    (c.as_slice.ensures ∙ c.in_ok-needs.ensures) (ap (λ (v : StatementView). v.number) c.self.view_is) refl refl c.in_ok-around.ensures.opened

pub returns-clause-closed : goal.returns-clause-closed
returns-clause-closed g c =
    works_closed c.args.self.now (record { stmt = c.self.inside.number; node = c.args.node; path = []; output = 0; homes = c.layout.inside.homes.now }) c.as_slice.result.now c.in_ok-around.around.closed c.args.node
    (c.as_slice.ensures ∙ c.in_ok-needs.ensures) (ap (λ (v : StatementView). v.number) c.self.view_is) refl refl c.in_ok-around.ensures.closed
