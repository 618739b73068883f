use Rattle.std.proofs.Common.{◌≡◌, ℕ, ◌<◌, ◌&&◌, false}
use Rattle.dt_tracker.specs.Tracks.{follows, has_left}
use Rattle.dt_tracker.proofs.holding.first_holding.Given as goal

abbrev pub invariant-loop-a : goal.invariant-loop-a
invariant-loop-a l = (k : ℕ) → k < l.a → (has_left l.counts.units.items l.counts.done.items k && follows l.rows k l.op) ≡ false
