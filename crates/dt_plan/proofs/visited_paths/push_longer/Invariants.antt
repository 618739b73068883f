use Rattle.std.proofs.Common.{◌≡◌, ◌++◌, ◌∷◌, [], map, take}
use Rattle.dt_plan.proofs.visited_paths.push_longer.Given as goal

abbrev pub invariant-loop-value : goal.invariant-loop-value
invariant-loop-value l = l.paths.items ≡ l.fn.paths.items ++ map (λ i. l.path ++ i ∷ []) (take l.value-index l.values)
