use Rattle.std.proofs.Common.{rules, ◌≡◌, ℕ, ◌<◌, Bool, true, false, List, refl, ap, sym, subst, ◌∙◌, length, get_or, take, arith}
use Rattle.std.proofs.lemmas.List.{take_all}
use Rattle.std.specs.Int.{from_bool}
use Rattle.dt_tracker.specs.Waiting.{IsWaiting, one_if}
use Rattle.dt_tracker.proofs.Made.{few_more, most_is, waiting_more, waits_for_none, zero_get}
use Rattle.dt_tracker.proofs.rows.waiting_for.Goals as goal

one_is : (b : Bool) → from_bool b ≡ one_if b
one_is true = refl
one_is false = refl

pub loop-i-init : goal.loop-i-init
loop-i-init c = record {
  counted = waits_for_none c.args.counts.now.units.items c.args.counts.now.done.items c.in_ok-waiting.waiting.items (search rules);
  few = λ b. search (rules, zero_get);
}

pub overflow_add-index_mut : goal.overflow_add-index_mut
overflow_add-index_mut c =
    let e = c.requires.events c.loop-i.i (0, 0) c.loop-i-test.true in
    let most = most_is c.args.counts.now.units.items c.args.counts.now.done.items c.args.events.now c.loop-i.waiting.items c.loop-i.i c.index_mut.result.now c.from.result c.loop-i-test.true e.0 e.1
    c.loop-i.invariant.counted c.loop-i.invariant.few c.index_mut.ensures.value (c.from.ensures ∙ one_is c.has_left.result ∙ ap one_if c.has_left.ensures) in
    omega (arith, most, c.loop-i-test.true, c.requires.few)

pub loop-i-preserved : goal.loop-i-preserved
loop-i-preserved c =
    let e = c.requires.events c.loop-i.i (0, 0) c.loop-i-test.true in
    record {
      counted = waiting_more c.args.counts.now.units.items c.args.counts.now.done.items c.args.events.now c.loop-i.waiting.items c.loop-i.i c.index_mut.result.now c.from.result c.loop-i-test.true e.0 e.1
          c.loop-i.invariant.counted c.loop-i.invariant.few c.index_mut.ensures.value (c.from.ensures ∙ one_is c.has_left.result ∙ ap one_if c.has_left.ensures);
      few = few_more c.args.counts.now.units.items c.args.counts.now.done.items c.args.events.now c.loop-i.waiting.items c.loop-i.i c.index_mut.result.now c.from.result c.loop-i-test.true e.0 e.1
          c.loop-i.invariant.counted c.loop-i.invariant.few c.index_mut.ensures.value (c.from.ensures ∙ one_is c.has_left.result ∙ ap one_if c.has_left.ensures);
    }

pub returns : goal.returns
returns c =
    subst (λ (es : List (ℕ × ℕ)). IsWaiting c.args.counts.now.units.items c.args.counts.now.done.items es c.loop-i.waiting.items) (take_all c.loop-i.i c.args.events.now c.loop-i-test.false) c.loop-i.invariant.counted
