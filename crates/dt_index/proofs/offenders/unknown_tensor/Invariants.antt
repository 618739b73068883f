use Rattle.std.proofs.Common.{◌≡◌, None, map, take}
use Rattle.std.specs.Prelude.{find, is_none}
use Rattle.dt_index.specs.Known.{place_of}
use Rattle.dt_index.proofs.offenders.unknown_tensor.Given as goal

abbrev pub invariant-loop-access : goal.invariant-loop-access
invariant-loop-access g l = find (λ a. is_none (place_of a.tensor (g.L.Lookup.tensors l.names))) (take l.access-index (map (λ a. a.now) l.accesses)) ≡ None
