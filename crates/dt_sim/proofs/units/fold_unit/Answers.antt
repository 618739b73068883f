use Rattle.std.proofs.Common.{◌≡◌, List, Some, true, sym, ◌∙◌, subst}
use Rattle.std.specs.Prelude.{is_some}
use Rattle.dt_mem.specs.Memory.{Slot, value_at}
use Rattle.dt_sim.specs.Memories.{memory_at}
use Rattle.dt_sim.proofs.MemoryUnits.{fold_done, fold_from, fold_none, fold_to}
use Rattle.dt_sim.proofs.units.fold_unit.Goals as goal

pub read_on-amount-requires : goal.read_on-amount-requires
read_on-amount-requires g c =
    subst (λ (m : List (List Slot)). is_some (value_at (memory_at m c.op-op.result.now.node) c.args.scratch c.in-Some.word) ≡ true) (sym c.as_slice.ensures.value)
    (fold_from c.args.job.now c.args.op c.args.unit c.args.home c.args.scratch c.args.mems.now.items c.requires.due c.requires.home c.requires.scratch c.op-op.result.now c.op-op.ensures c.in-Some.word (sym c.in-Some.is ∙ c.at.ensures))

pub fold_on-requires : goal.fold_on-requires
fold_on-requires g c = fold_to c.args.job.now c.args.op c.args.unit c.args.home c.args.scratch c.args.mems.now.items c.requires.due c.requires.home c.requires.scratch c.op-op.result.now c.op-op.ensures c.in-Some.word (sym c.in-Some.is ∙ c.at.ensures)

pub returns-in-None : goal.returns-in-None
returns-in-None g c = fold_none c.args.job.now c.args.op c.args.unit c.args.home c.args.scratch c.args.mems.now.items c.requires.due c.requires.home c.requires.scratch c.op-op.result.now c.op-op.ensures (sym c.in-None.is ∙ c.at.ensures)

pub returns-in-Some : goal.returns-in-Some
returns-in-Some g c =
    let read = subst (λ (m : List (List Slot)). value_at (memory_at m c.op-op.result.now.node) c.args.scratch c.in-Some.word ≡ Some c.read_on-amount.result) c.as_slice.ensures.value c.read_on-amount.ensures in
    rw c.fold_on.ensures (fold_done c.args.job.now c.args.op c.args.unit c.args.home c.args.scratch c.args.mems.now.items c.requires.due c.requires.home c.requires.scratch c.op-op.result.now c.op-op.ensures c.in-Some.word (sym c.in-Some.is ∙ c.at.ensures) c.read_on-amount.result read)
