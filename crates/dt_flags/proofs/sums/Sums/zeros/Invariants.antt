use Rattle.std.proofs.Common.{◌≡◌, ◌-◌, ◌/◌, ◌<◌, length, replicate}
use Rattle.dt_flags.specs.Sums.{AreHalves, halved_times}
use Rattle.dt_flags.proofs.sums.Sums.zeros.Given as goal

abbrev pub invariant-loop-len : goal.invariant-loop-len
invariant-loop-len l = record {
  halves : AreHalves (replicate l.count 0) l.levels.items;
  next : halved_times (length l.levels.items) (replicate l.count 0) ≡ replicate (l.len - l.len / 2) 0;
  some : 0 < length l.levels.items;
}

abbrev pub decreases-loop-len : goal.decreases-loop-len
decreases-loop-len l = l.len
