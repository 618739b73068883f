use Rattle.std.proofs.Common.{◌≡◌, filter}
use Rattle.std.specs.List.{flat_map}
use Rattle.dt_base.specs.Ranges.{below}
use Rattle.dt_runs.specs.Sets.{contains}
use Rattle.dt_copy.specs.Sources.{home_at, piece_of}
use Rattle.dt_copy.proofs.sources.shares.Given as goal

abbrev pub invariant-loop-m : goal.invariant-loop-m
invariant-loop-m l = l.items.items ≡ flat_map (λ m. piece_of m (filter (contains (home_at l.homes m)) l.need)) (below l.m)
