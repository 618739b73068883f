use Rattle.std.proofs.Common.{◌≡◌, length}
use Rattle.dt_visit_tests.proofs.item_texts.items_text.Given as goal

abbrev pub invariant-loop-text : goal.invariant-loop-text
invariant-loop-text l = record {
  same_sched : l.visits.sched ≡ l.sched;
  room : length l.values ≡ length l.sched.names;
}

abbrev pub decreases-loop-text : goal.decreases-loop-text
decreases-loop-text l = length l.visits.left
