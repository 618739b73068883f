use Rattle.std.proofs.Common.{ℕ, List, length, ap, ◌∙◌}
use Rattle.dt_base.specs.Rows.{row_major}
use Rattle.dt_nest.specs.Schedule.{Schedule}
use Rattle.dt_leaf.proofs.WordFacts.{none_word, some_word}
use Rattle.dt_leaf.proofs.words.word_at.Goals as goal

pub returns-in-None : goal.returns-in-None
returns-in-None g c =
    none_word (g.L.Locator.tensors c.args.loc.now) c.args.sched.now c.args.tensor (length c.as_slice-tensors.result.now) c.args.coords.now c.as_slice.result.now
    (ap length (c.as_slice-tensors.ensures ∙ ap (λ (s : Schedule). s.tensors) c.parts-parts.ensures.parts)) (c.as_slice.ensures ∙ ap (λ (s : Schedule). s.works) c.parts-parts.ensures.parts) c.if-at-tensors.false c.in-None.ensures.lookup.3

pub returns-in-Some : goal.returns-in-Some
returns-in-Some g c =
    some_word (g.L.Locator.tensors c.args.loc.now) c.args.sched.now c.args.tensor (length c.as_slice-tensors.result.now) c.args.coords.now c.as_slice.result.now c.in-Some.work.now c.work_word.result
    (ap length (c.as_slice-tensors.ensures ∙ ap (λ (s : Schedule). s.tensors) c.parts-parts.ensures.parts)) (c.as_slice.ensures ∙ ap (λ (s : Schedule). s.works) c.parts-parts.ensures.parts) c.if-at-tensors.false
    c.in-Some.ensures.lookup.3.0 c.in-Some.ensures.lookup.1 (c.work_word.ensures ∙ ap (λ (l : List ℕ). row_major l c.args.coords.now) c.as_slice-in-Some.ensures)
