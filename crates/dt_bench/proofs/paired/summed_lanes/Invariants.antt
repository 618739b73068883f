use Rattle.std.proofs.Common.{◌≡◌, length}
use Rattle.dt_bench.proofs.paired.summed_lanes.Given as goal

abbrev pub invariant-loop-room : goal.invariant-loop-room
invariant-loop-room l = record {
  same_sched : l.visits.sched ≡ l.sched;
  room : length l.values ≡ length l.sched.names;
}

abbrev pub decreases-loop-room : goal.decreases-loop-room
decreases-loop-room l = length l.visits.left
