use Rattle.std.proofs.Common.{◌≡◌, ◌++◌, ◌∷◌, [], map, take}
use Rattle.std.specs.List.{flat_map}
use Rattle.dt_nest.specs.PathSteps.{visited_values}
use Rattle.dt_plan.proofs.visited_paths.grown.Given as goal

abbrev pub invariant-loop-path : goal.invariant-loop-path
invariant-loop-path g l = l.items.items ≡ flat_map (λ p. map (λ i. p ++ i ∷ []) (visited_values (g.L.Locator.tensors l.loc) l.sched p)) (take l.path-index l.paths)
