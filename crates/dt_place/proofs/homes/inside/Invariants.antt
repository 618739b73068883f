use Rattle.std.proofs.Common.{◌≡◌}
use Rattle.std.specs.List.{filter}
use Rattle.dt_base.specs.Ranges.{below}
use Rattle.dt_model.specs.Positions.{coords_at, tensor_at}
use Rattle.dt_place.specs.Homes.{lies_in}
use Rattle.dt_place.proofs.homes.inside.Given as goal

abbrev pub invariant-loop-pos : goal.invariant-loop-pos
invariant-loop-pos g l = l.list.items ≡ filter (λ pos. lies_in l.sides (coords_at (tensor_at (g.L.Locator.tensors l.loc) l.tensor) pos)) (below l.pos)
