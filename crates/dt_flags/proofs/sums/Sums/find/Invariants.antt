use Rattle.std.proofs.Common.{◌≡◌, ◌+◌, ◌<◌, ◌≤◌, length, slice_index, sum, take}
use Rattle.dt_flags.specs.Sums.{halved_times, lowest}
use Rattle.dt_flags.proofs.sums.Sums.find.Given as goal

abbrev pub invariant-loop-level : goal.invariant-loop-level
invariant-loop-level l = record {
  levels : l.level ≤ length l.self-inside.levels.items;
  within : l.spot.behind < slice_index (halved_times l.level (lowest l.self-inside.levels.items)) l.spot.place;
  kept : sum (take l.spot.place (halved_times l.level (lowest l.self-inside.levels.items))) + l.spot.behind ≡ l.amount;
}

abbrev pub decreases-loop-level : goal.decreases-loop-level
decreases-loop-level l = l.level
