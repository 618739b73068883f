use Rattle.dt_job.proofs.FirstPart.{first_fits}
use Rattle.dt_tests.proofs.visit_tests.values_after.Goals as goal

pub values-requires : goal.values-requires
values-requires c = first_fits c.in-Ok.job c.as_slice-2.result.now c.part-item.result (c.in-Ok.ensures.0, c.in-Ok.ensures.2) c.as_slice-2.ensures c.in-len1-up.len_at_least c.part-item.is
