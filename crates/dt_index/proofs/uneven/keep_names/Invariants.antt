use Rattle.std.proofs.Common.{◌≡◌, take, ◌&&◌, ◌||◌, List, ℕ}
use Rattle.dt_index.specs.NameSets.{among, among_common}
use Rattle.dt_index.proofs.uneven.keep_names.Given as goal

abbrev pub invariant-loop-name : goal.invariant-loop-name
invariant-loop-name l = (v : List ℕ) → among l.kept v ≡ (among l.fn.kept v || (among (take l.name-index l.names) v && among_common l.common v))
