use Rattle.std.proofs.Common.{◌≡◌, map, take}
use Rattle.std.specs.List.{flat_map}
use Rattle.dt_index.specs.Resolve.{term_accesses}
use Rattle.dt_index.proofs.access_list.right_accesses.Given as goal

abbrev pub invariant-loop-term : goal.invariant-loop-term
invariant-loop-term l = map (λ a. a.now) l.accesses.items ≡ flat_map term_accesses (take l.term-index l.form.terms)
