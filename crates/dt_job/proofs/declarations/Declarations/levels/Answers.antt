use Rattle.std.proofs.Common.{◌∙◌}
use Rattle.dt_job.proofs.ContentFacts.{stored_at}
use Rattle.dt_job.proofs.declarations.Declarations.levels.Goals as goal

pub returns : goal.returns
returns c = c.levels.ensures ∙ stored_at c.args.self.now c.args.at c.tensor.result.now c.tensor.ensures
