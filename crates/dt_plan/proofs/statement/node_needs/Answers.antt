use Rattle.std.proofs.Common.{ℕ, ◌≤◌, List, length, ap, sym, ◌∙◌, subst}
use Rattle.std.specs.List.{AllByRecursion}
use Rattle.dt_nest.proofs.Each.{all_get}
use Rattle.dt_plan.specs.Operations.{node_works}
use Rattle.dt_plan.specs.Statements.{StatementView}
use Rattle.dt_plan.proofs.StatementFacts.{node_works_after}
use Rattle.dt_plan.proofs.statement.node_needs.Goals as goal

pub push_work-requires : goal.push_work-requires
push_work-requires g c =
    all_get (λ (w : ℕ). length c.args.statement.now.part.sched.tensors ≤ w) c.as_slice-number-items.result.now c.loop-number.number-index 0
    (subst (λ (ws : List ℕ). AllByRecursion (λ (w : ℕ). length c.args.statement.now.part.sched.tensors ≤ w) ws)
    (sym (c.as_slice-number-items.ensures.value ∙ c.in_ok-works.ensures ∙ ap (λ (v : StatementView). node_works v.part.sched) c.statement.view_is)) (node_works_after c.args.statement.now.part.sched))
    c.loop-number-test.true
