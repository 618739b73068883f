use Rattle.std.proofs.Common.{◌≡◌, ap, ◌∙◌, arith, None, Some}
use Rattle.dt_nest.specs.Schedule.{Schedule}
use Rattle.dt_place.specs.Machines.{nodes_of}
use Rattle.dt_place.proofs.MachineFacts.{machine_facts}
use Rattle.dt_plan.specs.Layouts.{Layout}
use Rattle.dt_plan.specs.Statements.{StatementView}
use Rattle.dt_plan.proofs.StatementFacts.{node_found}
use Rattle.dt_plan.proofs.statement.Statement.node_of.Goals as goal

pub returns-in-None-clause-node : goal.returns-in-None-clause-node
returns-in-None-clause-node g c =
    node_found c.args.self.now c.layout.inside.machine.now c.parts.result.now.distributed c.args.path.now c.front_of-coords.result.now None
    (ap (λ (l : Layout). l.machine) c.layout.view_is ∙ ap (λ (v : StatementView). v.layout.machine) c.self.view_is)
    (ap (λ (s : Schedule). s.distributed) c.parts.ensures.parts ∙ ap (λ (v : StatementView). v.part.sched.distributed) c.self.view_is) c.front_of-coords.ensures c.in-None.ensures.node

pub returns-in-None-clause-within : goal.returns-in-None-clause-within
returns-in-None-clause-within g c =
    let some = (machine_facts c.layout.inside.machine.now c.layout.invariant.machine).positive in
    let same : nodes_of c.layout.inside.machine.now ≡ nodes_of c.args.self.now.layout.machine = ap (λ (l : Layout). nodes_of l.machine) c.layout.view_is ∙ ap (λ (v : StatementView). nodes_of v.layout.machine) c.self.view_is in
    omega (arith, some, same)

pub returns-in-Some-clause-node : goal.returns-in-Some-clause-node
returns-in-Some-clause-node g c =
    node_found c.args.self.now c.layout.inside.machine.now c.parts.result.now.distributed c.args.path.now c.front_of-coords.result.now (Some c.in-Some.node)
    (ap (λ (l : Layout). l.machine) c.layout.view_is ∙ ap (λ (v : StatementView). v.layout.machine) c.self.view_is)
    (ap (λ (s : Schedule). s.distributed) c.parts.ensures.parts ∙ ap (λ (v : StatementView). v.part.sched.distributed) c.self.view_is) c.front_of-coords.ensures c.in-Some.ensures.node
