use Rattle.dt_job.proofs.FirstPart.{first_fits}
use Rattle.dt_bench.proofs.leaves.node.Goals as goal

pub on_node-requires : goal.on_node-requires
on_node-requires c = first_fits c.in_ok-job.job c.as_slice.result.now c.part-item.result c.in_ok-job.ensures c.as_slice.ensures c.in-len1-up.len_at_least c.part-item.is
