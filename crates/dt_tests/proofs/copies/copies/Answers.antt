use Rattle.dt_job.proofs.FirstPart.{first_fits}
use Rattle.dt_tests.proofs.copies.copies.Goals as goal

pub needed-requires-clause-fits : goal.needed-requires-clause-fits
needed-requires-clause-fits c = first_fits c.args.job.now c.as_slice.result.now c.part-item.result c.requires c.as_slice.ensures c.in-len1-up.len_at_least c.part-item.is
