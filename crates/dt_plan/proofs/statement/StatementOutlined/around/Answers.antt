use Rattle.std.proofs.Common.{ap, ◌∙◌}
use Rattle.dt_plan.specs.PathOps.{PathView, opened_of, closed_of}
use Rattle.dt_plan.specs.Statements.{path_at}
use Rattle.dt_plan.proofs.StatementFacts.{opened_is, closed_is}
use Rattle.dt_plan.proofs.statement.StatementOutlined.around.Goals as goal

pub returns-clause-opened : goal.returns-clause-opened
returns-clause-opened g c =
    c.in_ok-around.ensures.opened ∙ ap (λ (pv : PathView). opened_of pv c.as_slice.result.now) c.on_path-on.ensures.path
    ∙ ap (opened_of (path_at c.args.self.now c.args.path.now)) (c.as_slice.ensures ∙ c.in_ok-needs.ensures)
    ∙ opened_is c.args.self.now c.on_path-on.ensures.homes c.on_path-on.ensures.part c.args.path.now

pub returns-clause-closed : goal.returns-clause-closed
returns-clause-closed g c =
    c.in_ok-around.ensures.closed ∙ ap (λ (pv : PathView). closed_of pv c.as_slice.result.now) c.on_path-on.ensures.path
    ∙ ap (closed_of (path_at c.args.self.now c.args.path.now)) (c.as_slice.ensures ∙ c.in_ok-needs.ensures)
    ∙ closed_is c.args.self.now c.on_path-on.ensures.homes c.on_path-on.ensures.part c.args.path.now
