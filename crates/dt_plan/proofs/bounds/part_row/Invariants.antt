use Rattle.std.proofs.Common.{◌≡◌, ◌+◌, take}
use Rattle.std.specs.Prelude.{sum_by}
use Rattle.dt_place.specs.Machines.{nodes_of}
use Rattle.dt_plan.specs.Bounds.{scratch_words, work_words}
use Rattle.dt_plan.specs.NodeWords.{row_of}
use Rattle.dt_plan.proofs.bounds.part_row.Given as goal

abbrev pub invariant-loop-tensor : goal.invariant-loop-tensor
invariant-loop-tensor g l =
    l.row.items ≡ row_of (nodes_of l.statement.layout.machine) (λ n. work_words l.statement.layout l.statement.part.sched n + sum_by (scratch_words l.statement.layout l.statement.part.sched n) (take l.tensor-index l.tensor-items))
