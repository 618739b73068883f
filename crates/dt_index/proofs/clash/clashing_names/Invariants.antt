use Rattle.std.proofs.Common.{◌≡◌, take, not, ◌&&◌, List, ℕ}
use Rattle.std.specs.Prelude.{◌==◌}
use Rattle.std.specs.List.{list_any}
use Rattle.std.specs.Str.{bytes_eq}
use Rattle.dt_index.specs.NameSets.{among}
use Rattle.dt_index.specs.Resolve.{extent_of}
use Rattle.dt_index.proofs.clash.clashing_names.Given as goal

abbrev pub invariant-loop-occurrence : goal.invariant-loop-occurrence
invariant-loop-occurrence l = (v : List ℕ) → among l.clashing v ≡ list_any (λ o. bytes_eq o.name v && not (o.extent == extent_of l.occurrences v)) (take l.occurrence-index l.occurrences)
