use Rattle.std.proofs.Common.{◌≡◌, ◌≤◌, length, take}
use Rattle.std.specs.List.{list_any}
use Rattle.dt_events.specs.Conflicts.{conflict}
use Rattle.dt_events.proofs.events.has_conflict.Given as goal

abbrev pub invariant-loop-left : goal.invariant-loop-left
invariant-loop-left l = record {
  same : list_any (λ x. conflict l.plan x l.op) (take l.left l.ops) ≡ list_any (λ x. conflict l.plan x l.op) l.ops;
  within : l.left ≤ length l.ops;
}

abbrev pub decreases-loop-left : goal.decreases-loop-left
decreases-loop-left l = l.left
