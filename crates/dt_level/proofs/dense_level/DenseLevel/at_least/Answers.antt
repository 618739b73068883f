use Rattle.std.proofs.Common.{sym, ◌∙◌}
use Rattle.dt_level.proofs.DenseLemmas.{dense_least}
use Rattle.dt_level.proofs.dense_level.DenseLevel.at_least.Goals as goal

pub returns : goal.returns
returns c =
    c.min.ensures
    ∙ sym (dense_least c.self.inside.extent c.self.inside.parents c.args._parent c.args.x _ c.self.view_is c.requires)
