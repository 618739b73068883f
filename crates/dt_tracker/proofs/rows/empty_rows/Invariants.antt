use Rattle.std.proofs.Common.{◌≡◌, [], map}
use Rattle.dt_base.specs.Ranges.{below}
use Rattle.dt_tracker.specs.Tracks.{followers_in}
use Rattle.dt_tracker.proofs.rows.empty_rows.Given as goal

abbrev pub invariant-loop-row : goal.invariant-loop-row
invariant-loop-row l = l.rows.items ≡ map (followers_in []) (below l.row)
