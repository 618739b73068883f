use Rattle.std.proofs.Common.{◌≡◌, List, true, false, sym, ◌∙◌, subst}
use Rattle.std.specs.Prelude.{is_some}
use Rattle.dt_mem.specs.Memory.{Slot, value_at}
use Rattle.dt_sim.specs.Memories.{memory_at}
use Rattle.dt_sim.proofs.MemoryUnits.{zero_absent, zero_held}
use Rattle.dt_sim.proofs.memories.zero_word.Goals as goal

pub returns-then-holds : goal.returns-then-holds
returns-then-holds c =
    let held = subst (λ (m : List (List Slot)). is_some (value_at (memory_at m c.args.node) c.args.buf c.args.word) ≡ true) c.as_slice.ensures.value (sym c.holds_on-holds.ensures ∙ c.if-holds.true) in
    rw c.write_on.ensures (zero_held c.args.node c.args.buf c.args.word c.args.mems.now.items held)

pub returns-else-holds : goal.returns-else-holds
returns-else-holds c =
    let absent = subst (λ (m : List (List Slot)). is_some (value_at (memory_at m c.args.node) c.args.buf c.args.word) ≡ false) c.as_slice.ensures.value (sym c.holds_on-holds.ensures ∙ c.if-holds.false) in
    zero_absent c.args.node c.args.buf c.args.word c.args.mems.now.items absent
