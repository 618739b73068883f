use Rattle.std.proofs.Common.{get_or, length, ap, ◌∙◌, subst, arith}
use Rattle.dt_plan.specs.Brackets.{brackets}
use Rattle.dt_plan.specs.Keeps.{Keeps}
use Rattle.dt_plan.specs.Layouts.{Layout}
use Rattle.dt_plan.specs.Statements.{StatementView, HasHomes, outline_at}
use Rattle.dt_plan.proofs.NumberedParts.{listed_all, listed_more, parts_few}
use Rattle.dt_plan.proofs.job_ops.listed.Goals as goal

pub overflow_cast-number : goal.overflow_cast-number
overflow_cast-number g c =
    let few = parts_few c.args.layout.now.parts in
    let same = ap (λ (l : Layout). length l.parts) c.layout.view_is in
    let visits = c.requires.visits in
    let test = c.loop-number-test.true in
    omega (arith, few, same, visits, test)

pub loop-number-preserved : goal.loop-number-preserved
loop-number-preserved g c =
    let same = ap (λ (l : Layout). length l.parts) c.layout.view_is in
    let test = c.loop-number-test.true in
    listed_more c.args.layout.now c.loop-number.number c.part-item.result c.loop-number.ops c.push_brackets.new.ops (omega (arith, same, test))
    (c.part-item.is ∙ ap (λ (l : Layout). get_or l.parts c.loop-number.number c.part-item.result) c.layout.view_is) c.loop-number.invariant
    (subst (λ (v : StatementView). Keeps c.loop-number.ops (brackets (outline_at v)) c.push_brackets.new.ops) c.in_ok-statement.ensures c.in_ok-push_brackets.ensures)

pub returns : goal.returns
returns g c =
    let same = ap (λ (l : Layout). length l.parts) c.layout.view_is in
    let test = c.loop-number-test.false in
    listed_all c.args.layout.now c.loop-number.number c.loop-number.ops (subst HasHomes c.layout.view_is c.layout.invariant) c.requires (omega (arith, same, test)) c.loop-number.invariant
