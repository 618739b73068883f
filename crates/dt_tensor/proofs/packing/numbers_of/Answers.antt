use Rattle.std.proofs.Common.{◌≡◌, ◌∙◌, ℕ, List, ◌++◌, take, option_to_list, ap, sym, arith}
use Rattle.std.proofs.lemmas.List.{take_all}
use Rattle.dt_runs.specs.Sets.{contains}
use Rattle.dt_base.specs.Rows.{row_major}
use Rattle.dt_model.specs.Shape.{dims}
use Rattle.dt_tensor.specs.Packing.{numbers_given}
use Rattle.dt_tensor.specs.declared.entry.Given.{Given}
use Rattle.dt_tensor.proofs.GivenFronts.{numbers_push}
use Rattle.dt_tensor.proofs.packing.numbers_of.Goals as goal

pub loop-entry-init : goal.loop-entry-init
loop-entry-init c = c.in_ok-numbers.ensures.items

pub loop-entry-preserved : goal.loop-entry-preserved
loop-entry-preserved c =
    c.in_ok-push_some.ensures ∙ ap (λ (l : List ℕ). l ++ option_to_list c.index.result) c.loop-entry.invariant
    ∙ sym (numbers_push (dims c.args.shape.now) c.args.entries.now c.loop-entry.entry-index c.entry-item.result c.index.result c.loop-entry-test.true c.entry-item.is (ap (row_major (dims c.args.shape.now)) (sym c.as_slice.ensures) ∙ sym c.index.ensures))

pub returns-clause-given : goal.returns-clause-given
returns-clause-given c = λ f.
    c.in_order.ensures.same f
    ∙ ap (λ (l : List ℕ). contains l f) (c.loop-entry.invariant ∙ ap (λ (es : List Given). numbers_given (dims c.args.shape.now) es) (take_all c.loop-entry.entry-index c.args.entries.now (omega arith)))
