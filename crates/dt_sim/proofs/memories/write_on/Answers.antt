use Rattle.dt_leaf.proofs.Cells.{value_slot}
use Rattle.dt_sim.specs.Memories.{memory_at}
use Rattle.dt_sim.proofs.Rooms.{memory_read}
use Rattle.dt_sim.proofs.memories.write_on.Goals as goal

pub write-requires-clause-exists : goal.write-requires-clause-exists
write-requires-clause-exists c = memory_read c.args.mems.now.items c.args.node c.args.buf c.index_mut-mem.result.now c.index_mut-mem.ensures.value (value_slot (memory_at c.args.mems.now.items c.args.node) c.args.buf c.args.word c.requires)
