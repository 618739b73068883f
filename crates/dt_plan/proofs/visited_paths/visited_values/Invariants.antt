use Rattle.std.proofs.Common.{◌≡◌, ◌++◌, ◌∷◌, [], length}
use Rattle.std.specs.Prelude.{filter, nat_lt}
use Rattle.dt_base.specs.Ranges.{below}
use Rattle.dt_nest.specs.Visits.{visits_of}
use Rattle.dt_plan.proofs.visited_paths.visited_values.Given as goal

abbrev pub invariant-loop-value : goal.invariant-loop-value
invariant-loop-value g l = l.values.items ≡ filter (λ i. nat_lt 0 (length (visits_of (g.L.Locator.tensors l.loc) l.sched (l.path ++ i ∷ [])))) (below l.value)
