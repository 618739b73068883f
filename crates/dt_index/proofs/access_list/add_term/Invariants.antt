use Rattle.std.proofs.Common.{◌≡◌, ◌++◌, map, take}
use Rattle.std.specs.List.{filter_map}
use Rattle.dt_index.specs.Resolve.{access_in}
use Rattle.dt_index.proofs.access_list.add_term.Given as goal

abbrev pub invariant-loop-factor : goal.invariant-loop-factor
invariant-loop-factor l = map (λ a. a.now) l.accesses.items ≡ map (λ a. a.now) l.fn.accesses.items ++ filter_map access_in (take l.factor-index l.term.factors)
