use Rattle.std.proofs.Common.{◌≡◌, map, take}
use Rattle.dt_index.specs.Resolve.{numbered_factor}
use Rattle.dt_index.proofs.numbering.numbered_term.Given as goal

abbrev pub invariant-loop-factor : goal.invariant-loop-factor
invariant-loop-factor g l = l.factors ≡ map (numbered_factor (g.L.Lookup.tensors l.names) l.variables) (take l.factor-index l.term.factors)
