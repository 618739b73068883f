use Rattle.std.proofs.Common.{◌≡◌, map}
use Rattle.dt_base.specs.Ranges.{below}
use Rattle.dt_model.specs.Positions.{tensor_at}
use Rattle.dt_place.specs.Homes.{home_of}
use Rattle.dt_place.proofs.homes.homes_on.Given as goal

abbrev pub invariant-loop-node : goal.invariant-loop-node
invariant-loop-node g l = l.items.items ≡ map (home_of l.placement l.machine (tensor_at (g.L.Locator.tensors l.loc) l.tensor)) (below l.node)
