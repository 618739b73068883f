use Rattle.std.proofs.Common.{length, sym, ap, ◌∙◌}
use Rattle.dt_nest.specs.Schedule.{Schedule}
use Rattle.dt_visit_tests.proofs.item_texts.items_text.Goals as goal

pub put_item-requires-clause-room : goal.put_item-requires-clause-room
put_item-requires-clause-room c = c.loop-text.invariant.room ∙ ap (λ (s : Schedule). length s.names) (sym (c.next.ensures.same.0 ∙ c.loop-text.invariant.same_sched))

pub loop-text-preserved : goal.loop-text-preserved
loop-text-preserved c = record {
  same_sched = c.next.ensures.same.0 ∙ c.loop-text.invariant.same_sched;
  room = c.in_ok-put_item-in-Some.ensures.room ∙ c.loop-text.invariant.room;
}
