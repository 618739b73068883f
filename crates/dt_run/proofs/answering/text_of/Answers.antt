use Rattle.std.proofs.Common.{List, length, ap, sym, ◌∙◌}
use Rattle.dt_plan.specs.declared.parts.Part.{Part}
use Rattle.dt_run.proofs.PlanAnswers.{for_stmts, job_headed, text_by}
use Rattle.dt_run.proofs.answering.text_of.Goals as goal

pub plan_text-requires : goal.plan_text-requires
plan_text-requires c = job_headed c.args.job c.requires.job ∙ ap (λ (ps : List Part). length ps) (sym c.as_slice.ensures)

pub returns-in-Plan : goal.returns-in-Plan
returns-in-Plan c =
    for_stmts c.args.job c.args.form c.plan_text.result c.in-Plan.is
    (text_by c.args.job c.args.plan.now c.args.events.now c.as_slice.result.now c.plan_text.result c.requires.plan c.requires.events c.as_slice.ensures c.plan_text.ensures)
