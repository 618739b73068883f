use Rattle.dt_job.proofs.FirstPart.{first_fits}
use Rattle.dt_bench.proofs.paired.plain.Goals as goal

pub evaluated-requires : goal.evaluated-requires
evaluated-requires c = first_fits c.in_ok-job.job c.as_slice-2.result.now c.part-item.result c.in_ok-job.ensures c.as_slice-2.ensures c.in-len1-up.len_at_least c.part-item.is
