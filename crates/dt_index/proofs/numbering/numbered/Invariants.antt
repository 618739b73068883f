use Rattle.std.proofs.Common.{◌≡◌, map, take}
use Rattle.dt_index.specs.Resolve.{number_in}
use Rattle.dt_index.proofs.numbering.numbered.Given as goal

abbrev pub invariant-loop-variable : goal.invariant-loop-variable
invariant-loop-variable g l = l.vars ≡ map (number_in l.variables) (take l.variable-index l.fn.access.vars)
