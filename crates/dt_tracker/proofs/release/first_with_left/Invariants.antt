use Rattle.std.proofs.Common.{◌≡◌, ℕ, ◌<◌, false}
use Rattle.dt_tracker.specs.Tracks.{has_left}
use Rattle.dt_tracker.proofs.release.first_with_left.Given as goal

abbrev pub invariant-loop-op : goal.invariant-loop-op
invariant-loop-op l = (a : ℕ) → a < l.op → has_left l.counts.units.items l.counts.done.items a ≡ false
