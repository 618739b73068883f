use Rattle.dt_job.proofs.FirstPart.{first_fits}
use Rattle.dt_node_tests.proofs.products.of_job.Goals as goal

pub numbers_on_node-requires : goal.numbers_on_node-requires
numbers_on_node-requires c = first_fits c.in-Ok.job c.as_slice.result.now c.part-item.result (c.in-Ok.ensures.0, c.in-Ok.ensures.2) c.as_slice.ensures c.in-len1-up.len_at_least c.part-item.is
