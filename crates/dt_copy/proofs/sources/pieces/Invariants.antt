use Rattle.std.proofs.Common.{◌≡◌, filter}
use Rattle.std.specs.List.{flat_map}
use Rattle.dt_base.specs.Ranges.{below}
use Rattle.dt_copy.specs.Sources.{piece_of, words_from}
use Rattle.dt_copy.proofs.Shared.{is_left}
use Rattle.dt_copy.proofs.sources.pieces.Given as goal

abbrev pub invariant-loop-m : goal.invariant-loop-m
invariant-loop-m l =
    (l.rest ≡ filter (is_left l.homes l.node l.m) l.need)
    × (l.items.items ≡ flat_map (λ m. piece_of m (words_from l.need l.homes l.node m)) (below l.m))
