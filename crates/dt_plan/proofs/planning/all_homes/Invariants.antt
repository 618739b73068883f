use Rattle.std.proofs.Common.{◌≡◌, map, take}
use Rattle.std.specs.List.{zip}
use Rattle.dt_place.specs.Homes.{homes_on}
use Rattle.dt_plan.proofs.planning.all_homes.Given as goal

abbrev pub invariant-loop-tensor : goal.invariant-loop-tensor
invariant-loop-tensor g l = l.all.items ≡ map (λ x. homes_on x.0 l.machine x.1) (take l.tensor (zip l.places (g.L.Locator.tensors l.loc)))
