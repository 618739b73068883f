use Rattle.std.proofs.Common.{length, sym, ap, ◌∙◌}
use Rattle.dt_nest.specs.Schedule.{Schedule}
use Rattle.dt_bench.proofs.paired.summed_lanes.Goals as goal

pub item_sum-sum-requires-clause-room : goal.item_sum-sum-requires-clause-room
item_sum-sum-requires-clause-room c = c.loop-room.invariant.room ∙ ap (λ (s : Schedule). length s.names) (sym (c.next.ensures.same.0 ∙ c.loop-room.invariant.same_sched))

pub loop-room-preserved : goal.loop-room-preserved
loop-room-preserved c = record {
  same_sched = c.next.ensures.same.0 ∙ c.loop-room.invariant.same_sched;
  room = c.item_sum-sum.ensures.room ∙ c.loop-room.invariant.room;
}
