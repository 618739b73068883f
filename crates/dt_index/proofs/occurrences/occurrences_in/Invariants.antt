use Rattle.std.proofs.Common.{◌≡◌, ◌≤◌, length, map, take, All}
use Rattle.std.specs.List.{flat_map}
use Rattle.dt_index.specs.Resolve.{access_occurrences, named_extents}
use Rattle.dt_index.proofs.occurrences.occurrences_in.Given as goal

abbrev pub invariant-loop-access : goal.invariant-loop-access
invariant-loop-access g l = record {
  value : l.all ≡ flat_map (access_occurrences (g.L.Lookup.tensors l.names)) (take l.access-index (map (λ a. a.now) l.accesses));
  few : All (λ a. length (named_extents (g.L.Lookup.tensors l.names) a.tensor) ≤ 4) (take l.access-index (map (λ a. a.now) l.accesses));
}
