use Rattle.std.proofs.Common.{ℕ, ◌<◌, length}
use Rattle.dt_model.specs.Positions.{tensor_at}
use Rattle.dt_leaf.specs.NodeWords.{cells_in}
use Rattle.dt_node.specs.Nodes.{HoldsBelow}
use Rattle.dt_node.proofs.holding.holds_tensors.Given as goal

abbrev pub invariant-loop-tensor : goal.invariant-loop-tensor
invariant-loop-tensor g l = (t : ℕ) → t < l.tensor → HoldsBelow (cells_in l.mem l.slots) t (length (tensor_at (g.L.Locator.tensors l.loc) t).coords)
