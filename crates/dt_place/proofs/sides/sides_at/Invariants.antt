use Rattle.std.proofs.Common.{◌≡◌, map}
use Rattle.std.specs.Prelude.{slice_index}
use Rattle.dt_base.specs.Ranges.{below}
use Rattle.dt_place.specs.Homes.{side_of, whole_side}
use Rattle.dt_place.proofs.sides.sides_at.Given as goal

abbrev pub invariant-loop-d : goal.invariant-loop-d
invariant-loop-d l = l.sides.items ≡ map (λ d. side_of d l.symbols l.dims l.node (whole_side (slice_index l.extents d))) (below l.d)
