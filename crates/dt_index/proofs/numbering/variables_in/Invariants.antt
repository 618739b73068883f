use Rattle.std.proofs.Common.{◌≡◌, map, take}
use Rattle.std.specs.List.{flat_map}
use Rattle.dt_index.specs.Resolve.{distinct}
use Rattle.dt_index.proofs.numbering.variables_in.Given as goal

abbrev pub invariant-loop-access : goal.invariant-loop-access
invariant-loop-access l = l.variables ≡ distinct (flat_map (λ a. a.vars) (take l.access-index (map (λ a. a.now) l.accesses)))
