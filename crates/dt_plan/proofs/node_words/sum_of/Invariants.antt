use Rattle.std.proofs.Common.{◌≡◌, take}
use Rattle.std.specs.Prelude.{sum}
use Rattle.dt_plan.specs.NodeWords.{capped}
use Rattle.dt_plan.proofs.node_words.sum_of.Given as goal

abbrev pub invariant-loop-words : goal.invariant-loop-words
invariant-loop-words l = l.total ≡ capped (sum (take l.words-index l.row))
