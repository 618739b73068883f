use Rattle.std.proofs.Common.{◌≡◌, List, ap, ◌∙◌, length, map, arith}
use Rattle.std.specs.Vec.Iter.{into_iter_items}
use Rattle.dt_job.specs.Drafts.{part_of}
use Rattle.dt_job.specs.Scheduled.{ScheduledView}
use Rattle.dt_job.proofs.Separating.{made_more, seen_all, seen_more}
use Rattle.dt_job.proofs.scheduled.separated.Goals as goal

pub loop-scheduled-preserved : goal.loop-scheduled-preserved
loop-scheduled-preserved c = record {
  seen = seen_more c.loop-scheduled.yielded (into_iter_items c.loop-scheduled.scheduled-iterator) (into_iter_items c.next.new.self) c.args.closed.items c.in-Some.scheduled c.in-Some.ensures.steps.0 c.loop-scheduled.invariant.seen;
  left = omega (arith, c.in-Some.ensures.steps.1, c.loop-scheduled.invariant.left, ap length c.in-Some.ensures.steps.0);
  heads = made_more (λ (s : ScheduledView). s.head) c.loop-scheduled.heads c.push-in-loop-scheduled.new.self c.loop-scheduled.yielded c.in-Some.scheduled _ c.into_part-head.ensures.head c.in_ok-push-2.ensures.ok c.loop-scheduled.invariant.heads;
  parts = made_more part_of c.loop-scheduled.parts c.push.new.self c.loop-scheduled.yielded c.in-Some.scheduled _ c.into_part-head.ensures.part c.in_ok-push.ensures.ok c.loop-scheduled.invariant.parts;
}

all : (c : goal.After-drop-scheduled-iterator-2) → c.loop-scheduled.yielded ≡ c.args.closed.items
all c = seen_all c.loop-scheduled.yielded (into_iter_items c.loop-scheduled.scheduled-iterator) c.args.closed.items c.loop-scheduled.scheduled-iterator.rest.len c.loop-scheduled.invariant.left c.in-None.ensures.steps.0 c.loop-scheduled.invariant.seen

pub returns-clause-heads : goal.returns-clause-heads
returns-clause-heads c = c.loop-scheduled.invariant.heads ∙ ap (λ (l : List ScheduledView). map (λ s. s.head) l) (all c)

pub returns-clause-parts : goal.returns-clause-parts
returns-clause-parts c = c.loop-scheduled.invariant.parts ∙ ap (λ (l : List ScheduledView). map part_of l) (all c)
