use Rattle.dt_sim.specs.Memories.{memory_at}
use Rattle.dt_sim.proofs.Rooms.{memory_read, present_within}
use Rattle.dt_sim.proofs.memories.end_on.Goals as goal

pub end-requires-clause-exists : goal.end-requires-clause-exists
end-requires-clause-exists c = memory_read c.args.mems.now.items c.args.node c.args.buf c.index_mut-mem.result.now c.index_mut-mem.ensures.value (present_within (memory_at c.args.mems.now.items c.args.node) c.args.buf c.requires)
