use Rattle.std.proofs.Common.{◌≡◌, ◌++◌, length, map, take}
use Rattle.std.specs.List.{zip}
use Rattle.dt_index.proofs.occurrences.add_dimensions.Given as goal

abbrev pub invariant-loop-variable : goal.invariant-loop-variable
invariant-loop-variable l = l.all ≡ l.fn.all ++ map (λ p. record { name = p.0; extent = p.1 }) (take (length l.yielded) (zip l.variables l.extents))
