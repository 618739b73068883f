use Rattle.std.proofs.Common.{◌≡◌, map, take}
use Rattle.dt_base.specs.Ranges.{below}
use Rattle.dt_tracker.specs.Tracks.{followers_in}
use Rattle.dt_tracker.proofs.rows.rows_of.Given as goal

abbrev pub invariant-loop-i : goal.invariant-loop-i
invariant-loop-i l = l.rows.items ≡ map (followers_in (take l.i l.events)) (below l.count)
