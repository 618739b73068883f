use Rattle.std.proofs.Common.{◌≡◌, ℕ, ◌+◌, ◌<◌, is_some, true}
use Rattle.dt_nest.specs.Unit.{Sign}
use Rattle.dt_leaf.specs.NodeWords.{cells_in}
use Rattle.dt_node.proofs.holding.are_present.Given as goal

abbrev pub invariant-loop-u : goal.invariant-loop-u
invariant-loop-u l = (v : ℕ) → v < l.u → is_some (cells_in l.mem l.slots (Sign (l.tensors + v))) ≡ true
