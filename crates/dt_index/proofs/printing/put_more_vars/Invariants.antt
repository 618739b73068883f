use Rattle.std.proofs.Common.{◌≡◌, ◌++◌, codes, map, take}
use Rattle.std.specs.List.{flat_map}
use Rattle.dt_index.specs.Printed.{name_at}
use Rattle.dt_index.proofs.printing.put_more_vars.Given as goal

abbrev pub invariant-loop-var : goal.invariant-loop-var
invariant-loop-var l = l.out ≡ l.fn.out ++ flat_map (λ w. codes "," ++ w) (map (name_at l.names) (take l.var-index l.vars))
