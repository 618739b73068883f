use Rattle.std.proofs.Common.{◌≡◌, take, ◌&&◌, List, ℕ}
use Rattle.std.specs.List.{list_any}
use Rattle.dt_index.specs.NameSets.{among, among_common}
use Rattle.dt_index.specs.Resolve.{factor_has}
use Rattle.dt_index.proofs.uneven.kept_names.Given as goal

abbrev pub invariant-loop-factor : goal.invariant-loop-factor
invariant-loop-factor l = (v : List ℕ) → among l.kept v ≡ (list_any (factor_has v) (take l.factor-index l.fn.term.factors) && among_common l.common v)
