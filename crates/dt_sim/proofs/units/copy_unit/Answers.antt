use Rattle.std.proofs.Common.{◌≡◌, List, Some, true, sym, ◌∙◌, subst}
use Rattle.std.specs.Prelude.{is_some}
use Rattle.dt_mem.specs.Memory.{Slot, value_at}
use Rattle.dt_sim.specs.Memories.{memory_at}
use Rattle.dt_sim.proofs.MemoryUnits.{copy_done, copy_from, copy_none, copy_to}
use Rattle.dt_sim.proofs.units.copy_unit.Goals as goal

pub read_on-value-requires : goal.read_on-value-requires
read_on-value-requires g c =
    subst (λ (m : List (List Slot)). is_some (value_at (memory_at m c.op-op.result.now.other) c.args.home c.in-Some.word) ≡ true) (sym c.as_slice.ensures.value)
    (copy_from c.args.job.now c.args.op c.args.unit c.args.home c.args.scratch c.args.mems.now.items c.requires.due c.requires.home c.requires.scratch c.op-op.result.now c.op-op.ensures c.in-Some.word (sym c.in-Some.is ∙ c.at.ensures))

pub write_on-requires : goal.write_on-requires
write_on-requires g c = copy_to c.args.job.now c.args.op c.args.unit c.args.home c.args.scratch c.args.mems.now.items c.requires.due c.requires.home c.requires.scratch c.op-op.result.now c.op-op.ensures c.in-Some.word (sym c.in-Some.is ∙ c.at.ensures)

pub returns-in-None : goal.returns-in-None
returns-in-None g c = copy_none c.args.job.now c.args.op c.args.unit c.args.home c.args.scratch c.args.mems.now.items c.requires.due c.requires.home c.requires.scratch c.op-op.result.now c.op-op.ensures (sym c.in-None.is ∙ c.at.ensures)

pub returns-in-Some : goal.returns-in-Some
returns-in-Some g c =
    let read = subst (λ (m : List (List Slot)). value_at (memory_at m c.op-op.result.now.other) c.args.home c.in-Some.word ≡ Some c.read_on-value.result) c.as_slice.ensures.value c.read_on-value.ensures in
    rw c.write_on.ensures (copy_done c.args.job.now c.args.op c.args.unit c.args.home c.args.scratch c.args.mems.now.items c.requires.due c.requires.home c.requires.scratch c.op-op.result.now c.op-op.ensures c.in-Some.word (sym c.in-Some.is ∙ c.at.ensures) c.read_on-value.result read)
