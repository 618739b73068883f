use Rattle.std.proofs.Common.{◌∙◌, ap, length}
use Rattle.dt_mem.proofs.MapLaws.{length-changed}
use Rattle.dt_node_tests.proofs.node.put.Goals as goal

pub returns : goal.returns
returns c = ap length c.write.ensures ∙ length-changed _ c.args.mem.now c.args.buf
