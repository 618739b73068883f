use Rattle.std.proofs.Common.{ℕ, length, ap, ◌∙◌}
use Rattle.std.specs.Prelude.{◌-◌}
use Rattle.dt_base.specs.Ranges.{below}
use Rattle.dt_plan.specs.Operations.{work_size}
use Rattle.dt_plan.specs.Statements.{StatementView}
use Rattle.dt_plan.proofs.StatementFacts.{whole_line}
use Rattle.dt_plan.proofs.statement.Statement.work_words.Goals as goal

pub returns : goal.returns
returns g c =
    c.in_ok-words.ensures ∙ whole_line c.work_size-size.result
    ∙ ap below
    (c.work_size-size.ensures.size ∙ ap (λ (n : ℕ). work_size c.self.inside.part.now.sched (c.args.number - n)) c.tensor_count.ensures
    ∙ ap (λ (v : StatementView). work_size v.part.sched (c.args.number - length v.part.sched.tensors)) c.self.view_is)
