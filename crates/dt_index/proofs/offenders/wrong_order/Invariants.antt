use Rattle.std.proofs.Common.{◌≡◌, None, length, map, take}
use Rattle.std.specs.Prelude.{find, not, ◌==◌}
use Rattle.dt_index.specs.Resolve.{named_extents}
use Rattle.dt_index.proofs.offenders.wrong_order.Given as goal

abbrev pub invariant-loop-access : goal.invariant-loop-access
invariant-loop-access g l = find (λ a. not (length a.vars == length (named_extents (g.L.Lookup.tensors l.names) a.tensor))) (take l.access-index (map (λ a. a.now) l.accesses)) ≡ None
