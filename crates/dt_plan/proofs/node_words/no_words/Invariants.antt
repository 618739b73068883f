use Rattle.std.proofs.Common.{◌≡◌}
use Rattle.dt_plan.specs.NodeWords.{row_of}
use Rattle.dt_plan.proofs.node_words.no_words.Given as goal

abbrev pub invariant-loop-node : goal.invariant-loop-node
invariant-loop-node l = l.row.items ≡ row_of l._node (λ n. 0)
