use Rattle.std.proofs.Common.{get_or, ap, sym, ◌∙◌}
use Rattle.dt_nest.specs.Paths.{tensors_in}
use Rattle.dt_place.specs.Machines.{nodes_of}
use Rattle.dt_plan.specs.declared.opened.Opened.TheVariants.{Scratch}
use Rattle.dt_plan.specs.NodeWords.{opened_words}
use Rattle.dt_plan.proofs.OpenedRows.{so_far, part_starts, part_goes, part_ends, tensor_opened}
use Rattle.dt_plan.proofs.SegmentRows.{row_many}
use Rattle.dt_plan.proofs.bounds.part_row.Goals as goal

pub loop-tensor-init : goal.loop-tensor-init
loop-tensor-init g c = part_starts c.args.statement.now c.as_slice-tensor-items.result.now c.in_ok-row.row.items c.in_ok-row.ensures

pub opened_row-requires : goal.opened_row-requires
opened_row-requires g c =
    tensor_opened c.args.statement.now.part.sched c.as_slice-tensor-items.result.now c.loop-tensor.tensor-index
    (c.as_slice-tensor-items.ensures.value ∙ c.in_ok-tensors.ensures ∙ ap tensors_in c.sched.ensures) c.loop-tensor-test.true

pub loop-tensor-preserved : goal.loop-tensor-preserved
loop-tensor-preserved g c =
    part_goes c.args.statement.now c.as_slice-tensor-items.result.now c.loop-tensor.tensor-index c.as_slice.result.now c.as_slice-in-loop-tensor.result.now c.in_ok-row-2.row.items c.loop-tensor-test.true
    (c.as_slice.ensures.value ∙ c.loop-tensor.invariant) (c.as_slice-in-loop-tensor.ensures.value ∙ c.in_ok-scratch.ensures) c.in_ok-row-2.ensures

pub returns : goal.returns
returns g c =
    part_ends c.args.statement.now c.as_slice-tensor-items.result.now c.loop-tensor.tensor-index c.loop-tensor.row.items c.loop-tensor-test.false
    (c.as_slice-tensor-items.ensures.value ∙ c.in_ok-tensors.ensures ∙ ap tensors_in c.sched.ensures) c.loop-tensor.invariant

pub summed-requires : goal.summed-requires
summed-requires g c =
    row_many (nodes_of c.args.statement.now.layout.machine) (so_far c.args.statement.now c.as_slice-tensor-items.result.now c.loop-tensor.tensor-index) c.as_slice.result.now (c.as_slice.ensures.value ∙ c.loop-tensor.invariant)
    ∙ sym
    (row_many (nodes_of c.args.statement.now.layout.machine) (opened_words c.args.statement.now.layout c.args.statement.now.part.sched (Scratch (get_or c.as_slice-tensor-items.result.now c.loop-tensor.tensor-index 0))) c.as_slice-in-loop-tensor.result.now
    (c.as_slice-in-loop-tensor.ensures.value ∙ c.in_ok-scratch.ensures))
