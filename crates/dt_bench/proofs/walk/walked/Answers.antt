use Rattle.dt_job.proofs.FirstPart.{first_fits}
use Rattle.dt_bench.proofs.walk.walked.Goals as goal

pub visited-requires : goal.visited-requires
visited-requires c = first_fits c.in_ok-job.job c.as_slice.result.now c.part-item.result c.in_ok-job.ensures c.as_slice.ensures c.in-len1-up.len_at_least c.part-item.is

pub leaves-requires : goal.leaves-requires
leaves-requires c = first_fits c.in_ok-job.job c.as_slice.result.now c.part-item.result c.in_ok-job.ensures c.as_slice.ensures c.in-len1-up.len_at_least c.part-item.is

pub evaluated-requires : goal.evaluated-requires
evaluated-requires c = first_fits c.in_ok-job.job c.as_slice.result.now c.part-item.result c.in_ok-job.ensures c.as_slice.ensures c.in-len1-up.len_at_least c.part-item.is
