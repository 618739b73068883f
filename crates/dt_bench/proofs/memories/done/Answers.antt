use Rattle.std.proofs.Common.{◌∙◌, ap, length}
use Rattle.dt_mem.specs.Memory.{Slot, folded, written}
use Rattle.dt_mem.proofs.MapLaws.{length-changed}
use Rattle.dt_bench.proofs.memories.done.Goals as goal

pub returns-in-Write : goal.returns-in-Write
returns-in-Write c = ap length c.write.ensures ∙ length-changed _ c.args.mem.now 0

pub returns-in-Fold : goal.returns-in-Fold
returns-in-Fold c = ap length c.fold.ensures ∙ length-changed _ c.args.mem.now 0
