use Rattle.std.proofs.Common.{◌≡◌, ℕ, ◌<◌, Bool, false, get_or, length}
use Rattle.dt_tracker.specs.Waiting.{is_ready}
use Rattle.dt_tracker.proofs.rows.enabled_flags.Given as goal

abbrev pub invariant-loop-op : goal.invariant-loop-op
invariant-loop-op l = record {
  count : length l.flags ≡ length l.waiting;
  ready : (k : ℕ) → k < l.op → get_or l.flags k false ≡ is_ready l.counts.units.items l.counts.done.items l.waiting k;
}
