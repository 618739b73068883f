use Rattle.std.proofs.Common.{◌≡◌, drop, length}
use Rattle.dt_tracker.specs.Waiting.{AreReady, CanRelease, fewer}
use Rattle.dt_tracker.proofs.release.release.Given as goal

abbrev pub invariant-loop-i : goal.invariant-loop-i
invariant-loop-i l = record {
  units : length l.counts.units.items ≡ length l.waiting.items;
  done : length l.counts.done.items ≡ length l.waiting.items;
  flags : length l.flags ≡ length l.waiting.items;
  can : CanRelease (drop l.i l.row) l.waiting.items;
  waits : fewer (drop l.i l.row) l.waiting.items ≡ fewer l.row l.fn.waiting.items;
  ready : AreReady l.counts.units.items l.counts.done.items l.waiting.items l.flags;
  same : length l.waiting.items ≡ length l.fn.waiting.items;
}
