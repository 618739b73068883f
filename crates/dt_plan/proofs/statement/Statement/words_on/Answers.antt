use Rattle.std.proofs.Common.{ap, ◌∙◌}
use Rattle.dt_plan.specs.Statements.{StatementView, has_path}
use Rattle.dt_plan.proofs.PathTests.{path_is}
use Rattle.dt_plan.proofs.statement.Statement.words_on.Goals as goal

pub needed-requires-clause-path : goal.needed-requires-clause-path
needed-requires-clause-path g c = path_is c.self.inside.part.now.sched.nest c.args.path.now (ap (λ (v : StatementView). has_path v c.args.path.now) c.self.view_is ∙ c.requires.path)
