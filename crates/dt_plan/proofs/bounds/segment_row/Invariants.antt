use Rattle.std.proofs.Common.{◌≡◌, ◌+◌, map}
use Rattle.std.specs.Prelude.{if◌then◌else◌, slice_index}
use Rattle.dt_base.specs.Ranges.{below}
use Rattle.dt_plan.specs.NodeWords.{capped}
use Rattle.dt_plan.proofs.bounds.segment_row.Given as goal

abbrev pub invariant-loop-node : goal.invariant-loop-node
invariant-loop-node l = l.sums.items ≡ map (λ n. capped (capped (if l.goes_on then slice_index l.row n else 0) + capped (slice_index l.part n))) (below l.node)
