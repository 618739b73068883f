use Rattle.std.proofs.Common.{ap, ◌∙◌}
use Rattle.dt_plan.specs.Statements.{StatementView, has_path}
use Rattle.dt_plan.proofs.ItemCounts.{few_visits}
use Rattle.dt_plan.proofs.PathTests.{path_is}
use Rattle.dt_plan.proofs.statement.StatementOutlined.task.Goals as goal

pub visit_count-requires-clause-path : goal.visit_count-requires-clause-path
visit_count-requires-clause-path g c = path_is c.self.inside.part.now.sched.nest c.args.path.now (ap (λ (v : StatementView). has_path v c.args.path.now) c.self.view_is ∙ c.requires)

pub visit_count-requires-clause-few : goal.visit_count-requires-clause-few
visit_count-requires-clause-few g c = few_visits (g.L.Locator.tensors c.layout.inside.loc.now) c.self.inside.part.now.sched c.args.path.now c.self.invariant.0.visits
