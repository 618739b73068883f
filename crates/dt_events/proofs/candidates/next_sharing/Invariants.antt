use Rattle.std.proofs.Common.{◌&&◌, [], length, nat_lt, take}
use Rattle.std.specs.Prelude.{slice_index_or}
use Rattle.dt_events.specs.Candidates.{IsNext, share_bucket}
use Rattle.dt_events.proofs.candidates.next_sharing.Given as goal

abbrev pub invariant-loop-touch : goal.invariant-loop-touch
invariant-loop-touch l = IsNext (λ x. nat_lt x (length l.plan.ops) && share_bucket (take l.touch-index l.touch-items) (slice_index_or l.plan.touches x [])) l.last l.next
