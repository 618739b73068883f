use Rattle.std.proofs.Common.{◌∙◌}
use Rattle.dt_job.proofs.ContentFacts.{dense_at}
use Rattle.dt_job.proofs.declarations.DeclarationsLookup.dense.Goals as goal

pub returns : goal.returns
returns c = c.is_dense.ensures ∙ dense_at c.args.self.now c.args.tensor c.tensor.result.now c.tensor.ensures
