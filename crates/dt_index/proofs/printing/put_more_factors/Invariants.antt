use Rattle.std.proofs.Common.{◌≡◌, ◌++◌, codes, map, take}
use Rattle.std.specs.List.{flat_map}
use Rattle.dt_index.specs.Printed.{factor_text, named_factor}
use Rattle.dt_index.proofs.printing.put_more_factors.Given as goal

abbrev pub invariant-loop-factor : goal.invariant-loop-factor
invariant-loop-factor l = l.out ≡ l.fn.out ++ flat_map (λ f. codes " * " ++ factor_text f) (map (named_factor l.vars l.tensors) (take l.factor-index l.factors))
