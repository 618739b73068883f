use Rattle.std.proofs.Common.{◌≡◌, take, List, ℕ}
use Rattle.std.specs.List.{list_all}
use Rattle.dt_index.specs.NameSets.{among_common}
use Rattle.dt_index.specs.Resolve.{term_has}
use Rattle.dt_index.proofs.uneven.common_names.Given as goal

abbrev pub invariant-loop-term : goal.invariant-loop-term
invariant-loop-term l = (v : List ℕ) → among_common l.common v ≡ list_all (term_has v) (take l.term-index l.terms)
