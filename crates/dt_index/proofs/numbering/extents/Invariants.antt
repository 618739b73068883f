use Rattle.std.proofs.Common.{◌≡◌, map, take}
use Rattle.dt_index.specs.Resolve.{extent_of}
use Rattle.dt_index.proofs.numbering.extents.Given as goal

abbrev pub invariant-loop-variable : goal.invariant-loop-variable
invariant-loop-variable l = l.extents ≡ map (extent_of l.occurrences) (take l.variable-index l.variables)
