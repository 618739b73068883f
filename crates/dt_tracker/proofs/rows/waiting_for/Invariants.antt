use Rattle.std.proofs.Common.{◌≡◌, ℕ, ◌<◌, ◌≤◌, get_or, length, take}
use Rattle.dt_tracker.specs.Waiting.{IsWaiting}
use Rattle.dt_tracker.proofs.rows.waiting_for.Given as goal

abbrev pub invariant-loop-i : goal.invariant-loop-i
invariant-loop-i l = record {
  counted : IsWaiting l.counts.units.items l.counts.done.items (take l.i l.events) l.waiting.items;
  few : (b : ℕ) → get_or l.waiting.items b 0 ≤ l.i;
}
