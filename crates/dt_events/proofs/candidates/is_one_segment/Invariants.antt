use Rattle.std.proofs.Common.{◌≡◌, true, nat_eq}
use Rattle.std.specs.List.{list_all}
use Rattle.dt_base.specs.Ranges.{below}
use Rattle.dt_events.specs.Conflicts.{segment_of}
use Rattle.dt_events.proofs.candidates.is_one_segment.Given as goal

abbrev pub invariant-loop-op : goal.invariant-loop-op
invariant-loop-op l = list_all (λ a. nat_eq (segment_of l.plan a) (segment_of l.plan 0)) (below l.op) ≡ true
