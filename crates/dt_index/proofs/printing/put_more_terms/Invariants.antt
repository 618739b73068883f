use Rattle.std.proofs.Common.{◌≡◌, ◌++◌, map, take}
use Rattle.std.specs.List.{flat_map}
use Rattle.dt_index.specs.Printed.{named_term, next_sign, term_text}
use Rattle.dt_index.proofs.printing.put_more_terms.Given as goal

abbrev pub invariant-loop-term : goal.invariant-loop-term
invariant-loop-term l = l.out ≡ l.fn.out ++ flat_map (λ u. next_sign u.minus ++ term_text u) (map (named_term l.vars l.tensors) (take l.term-index l.terms))
