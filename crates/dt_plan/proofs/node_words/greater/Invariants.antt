use Rattle.std.proofs.Common.{◌≡◌, map}
use Rattle.std.specs.Prelude.{max, slice_index}
use Rattle.dt_base.specs.Ranges.{below}
use Rattle.dt_plan.proofs.node_words.greater.Given as goal

abbrev pub invariant-loop-node : goal.invariant-loop-node
invariant-loop-node l = l.row.items ≡ map (λ n. max (slice_index l.left n) (slice_index l.right n)) (below l.node)
