use Rattle.std.proofs.Common.{◌≡◌, ℕ, ◌+◌, ◌<◌, Some, slice_get}
use Rattle.dt_base.specs.Rows.{product}
use Rattle.dt_nest.specs.declared.parts.Work.{Work}
use Rattle.dt_leaf.specs.NodeWords.{cells_in}
use Rattle.dt_node.specs.Nodes.{HoldsBelow}
use Rattle.dt_node.proofs.holding.holds_works.Given as goal

abbrev pub invariant-loop-u : goal.invariant-loop-u
invariant-loop-u l = (v : ℕ) → (x : Work) → v < l.u → slice_get l.works v ≡ Some x → HoldsBelow (cells_in l.mem l.slots) (l.tensors + v) (product x.extents)
