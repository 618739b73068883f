use Rattle.std.proofs.Common.{◌≡◌, ◌++◌, ℕ, List, take}
use Rattle.dt_index.specs.Resolve.{distinct}
use Rattle.dt_index.proofs.numbering.add_new.Given as goal

abbrev pub invariant-loop-name : goal.invariant-loop-name
invariant-loop-name l = (vs : List (List ℕ)) → l.fn.names ≡ distinct vs → l.names ≡ distinct (vs ++ take l.name-index l.more)
