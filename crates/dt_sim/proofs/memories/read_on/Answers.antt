use Rattle.dt_leaf.proofs.Cells.{value_slot}
use Rattle.dt_sim.specs.Memories.{memory_at}
use Rattle.dt_sim.proofs.Rooms.{memory_read}
use Rattle.dt_sim.proofs.memories.read_on.Goals as goal

pub read-requires-clause-exists : goal.read-requires-clause-exists
read-requires-clause-exists c = memory_read c.args.mems.now c.args.node c.args.buf c.index-mems-node.result c.index-mems-node.is (value_slot (memory_at c.args.mems.now c.args.node) c.args.buf c.args.word c.requires)
