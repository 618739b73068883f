use Rattle.std.proofs.Common.{◌≡◌}
use Rattle.dt_events.specs.Candidates.{bucket_pairs}
use Rattle.dt_events.proofs.candidates.bucket_pairs.Given as goal

abbrev pub invariant-loop-op : goal.invariant-loop-op
invariant-loop-op l = l.pairs.items ≡ bucket_pairs l.plan.touches l.op
