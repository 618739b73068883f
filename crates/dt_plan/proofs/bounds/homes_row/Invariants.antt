use Rattle.std.proofs.Common.{◌≡◌}
use Rattle.dt_plan.specs.Bounds.{home_words}
use Rattle.dt_plan.specs.NodeWords.{row_of}
use Rattle.dt_plan.proofs.bounds.homes_row.Given as goal

abbrev pub invariant-loop-node : goal.invariant-loop-node
invariant-loop-node g l = l.row.items ≡ row_of l.node (home_words l.layout)
