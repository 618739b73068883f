use Rattle.std.proofs.Common.{◌≡◌, ◌≤◌, length, drop}
use Rattle.dt_nest.specs.Tree.{tree_of}
use Rattle.dt_nest.specs.Chain.{chain}
use Rattle.dt_nest.proofs.chains.chain_around.Given as goal

abbrev pub invariant-loop-v : goal.invariant-loop-v
invariant-loop-v l = (l.v ≤ length l.extents) × (tree_of l.nest ≡ chain l.v (drop l.v l.extents) (tree_of l.fn.inner))

abbrev pub decreases-loop-v : goal.decreases-loop-v
decreases-loop-v l = l.v
