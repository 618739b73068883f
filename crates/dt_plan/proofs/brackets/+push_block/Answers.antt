use Rattle.std.proofs.Common.{ℕ, ◌∷◌, [], ◌++◌, List, subst, ◌∙◌, arith}
use Rattle.std.specs.Prelude.{◌-◌}
use Rattle.std.proofs.lemmas.Result.{on_ok_weaker}
use Rattle.dt_plan.specs.Brackets.{opened, block}
use Rattle.dt_plan.specs.Keeps.{Keeps}
use Rattle.dt_plan.proofs.BlockSteps.{task_kept, inside_kept, keeps_more}
use Rattle.dt_plan.proofs.brackets.+push_block.Goals as goal

pub returns-then-rest-eq0 : goal.returns-then-rest-eq0
returns-then-rest-eq0 g t c =
    on_ok_weaker c.append-then-rest-eq0.result
    (λ e. task_kept (g.O.Outlined.outline c.args.nest.now) c.args.path.now c.args.rest c.args.ops.now c.in_ok-around.around.opened c.in_ok-around.around.closed c.in_ok-around.ensures.opened c.in_ok-around.ensures.closed
    c.in_ok-task.field-0 c.append.new.self c.push.new.self c.append-then-rest-eq0.new.self c.if-rest-eq0.true c.in_ok-task.ensures c.in_ok-append.ensures c.in_ok-push.ensures.ok e)
    c.append-then-rest-eq0.ensures

pub loop-value-preserved : goal.loop-value-preserved
loop-value-preserved g t c =
    let m = g.O.Outlined.outline c.args.nest.now in
    keeps_more (λ i. block m (c.args.rest - 1) (c.args.path.now ++ i ∷ [])) c.as_slice-value-items.result.now c.loop-value.value-index 0 (opened m c.args.path.now) c.args.ops.now c.loop-value.ops c.push_block.new.ops
    (omega (arith, c.loop-value-test.true, c.loop-value.auto.value-index-end)) c.loop-value.invariant
    (subst (λ (p : List ℕ). Keeps c.loop-value.ops (block m (c.args.rest - 1) p) c.push_block.new.ops) (c.as_slice-in-loop-value.ensures.value ∙ c.in_ok-longer.ensures) c.in_ok-push_block.ensures)

pub returns : goal.returns
returns g t c =
    on_ok_weaker c.append-2.result
    (λ e. inside_kept (g.O.Outlined.outline c.args.nest.now) c.args.path.now c.args.rest c.args.ops.now c.in_ok-around.around.opened c.in_ok-around.around.closed c.in_ok-around.ensures.opened c.in_ok-around.ensures.closed
    c.as_slice-value-items.result.now c.loop-value.value-index c.loop-value.ops c.append-2.new.self c.if-rest-eq0.false (c.as_slice-value-items.ensures.value ∙ c.in_ok-values.ensures.values)
    (omega (arith, c.loop-value-test.false, c.loop-value.auto.value-index-end)) c.loop-value.invariant e)
    c.append-2.ensures
