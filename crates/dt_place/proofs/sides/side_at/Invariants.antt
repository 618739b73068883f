use Rattle.std.proofs.Common.{◌≡◌, drop}
use Rattle.dt_place.specs.Homes.{side_of, whole_side}
use Rattle.dt_place.proofs.sides.side_at.Given as goal

abbrev pub invariant-loop-i : goal.invariant-loop-i
invariant-loop-i l = side_of l.dimension (drop l.i l.symbols) (drop l.i l.dims) (drop l.i l.node) l.side ≡ side_of l.dimension l.symbols l.dims l.node (whole_side l.extent)
