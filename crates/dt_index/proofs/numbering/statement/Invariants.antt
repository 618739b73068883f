use Rattle.std.proofs.Common.{◌≡◌, map, take}
use Rattle.dt_index.specs.Resolve.{numbered_term}
use Rattle.dt_index.proofs.numbering.statement.Given as goal

abbrev pub invariant-loop-term : goal.invariant-loop-term
invariant-loop-term g l = l.terms ≡ map (numbered_term (g.L.Lookup.tensors l.names) l.variables) (take l.term-index l.fn.form.terms)
