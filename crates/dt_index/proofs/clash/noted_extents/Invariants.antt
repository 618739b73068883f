use Rattle.std.proofs.Common.{◌≡◌, take, option_map, List, ℕ}
use Rattle.std.specs.Prelude.{find}
use Rattle.std.specs.Str.{bytes_eq}
use Rattle.dt_index.specs.NameSets.{noted}
use Rattle.dt_index.proofs.clash.noted_extents.Given as goal

abbrev pub invariant-loop-occurrence : goal.invariant-loop-occurrence
invariant-loop-occurrence l = (v : List ℕ) → noted l.firsts v ≡ option_map (λ o. o.extent) (find (λ o. bytes_eq o.name v) (take l.occurrence-index l.occurrences))
