use Rattle.std.proofs.Common.{◌≡◌, ℕ, ◌<◌, ◌≤◌, length, map, take}
use Rattle.std.specs.Prelude.{slice_index}
use Rattle.std.specs.List.{AllByRecursion}
use Rattle.dt_place.specs.Machines.{nodes_of}
use Rattle.dt_plan.specs.declared.parts.Part.{Part}
use Rattle.dt_plan.specs.NodeWords.{most_of_segments, row_of, segment_sum}
use Rattle.dt_plan.proofs.bounds.segments_row.Given as goal

abbrev pub invariant-loop-number : goal.invariant-loop-number
invariant-loop-number g l = record {
  sum : l.sum.items ≡ row_of (nodes_of l.layout.machine) (segment_sum l.layout (take l.number l.layout.parts) l.segment);
  most : l.most.items ≡ row_of (nodes_of l.layout.machine) (most_of_segments l.layout (take l.number l.layout.parts));
  before : AllByRecursion (λ (p : Part). p.segment ≤ l.segment) (take l.number l.layout.parts);
  after : (k : ℕ) → l.number ≤ k → k < length l.layout.parts → l.segment ≤ slice_index (map (λ (p : Part). p.segment) l.layout.parts) k;
}
