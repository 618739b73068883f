use Rattle.std.proofs.Common.{ℕ, length, ap, ◌∙◌}
use Rattle.std.specs.Prelude.{sum_by}
use Rattle.dt_base.specs.Ranges.{below}
use Rattle.dt_nest.specs.Schedule.{Schedule}
use Rattle.dt_plan.specs.NodeWords.{row_of}
use Rattle.dt_plan.specs.Operations.{work_size}
use Rattle.dt_plan.proofs.OpenedRows.{no_works, some_works}
use Rattle.dt_plan.proofs.bounds.works_row.Goals as goal

pub returns-then-words-eq0 : goal.returns-then-words-eq0
returns-then-words-eq0 g c =
    no_works c.args.statement.now.layout c.args.statement.now.part.sched c.all_work_words-words.result
    (c.all_work_words-words.ensures ∙ ap (λ (s : Schedule). sum_by (work_size s) (below (length s.works))) c.sched.ensures) c.in_ok-none.none.items c.if-words-eq0.true
    (c.in_ok-none.ensures ∙ ap (λ (k : ℕ). row_of k (λ n. 0)) c.nodes.ensures)

pub returns : goal.returns
returns g c =
    some_works c.args.statement.now.layout c.args.statement.now.part.sched c.all_work_words-words.result
    (c.all_work_words-words.ensures ∙ ap (λ (s : Schedule). sum_by (work_size s) (below (length s.works))) c.sched.ensures) c.in_ok-row.row.items c.in_ok-row.ensures
