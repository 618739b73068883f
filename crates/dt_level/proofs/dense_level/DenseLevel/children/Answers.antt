use Rattle.std.proofs.Common.{subst}
use Rattle.dt_level.specs.Levels.{IsLevel}
use Rattle.dt_level.proofs.DenseLemmas.{dense_level, dense_count}
use Rattle.dt_level.proofs.dense_level.DenseLevel.children.Goals as goal

pub returns-clause-count : goal.returns-clause-count
returns-clause-count c = dense_count c.self.inside.extent c.self.inside.parents c.args._parent _ c.self.view_is c.requires

pub returns-clause-lawful : goal.returns-clause-lawful
returns-clause-lawful c = subst IsLevel c.self.view_is (dense_level c.self.inside.extent c.self.inside.parents c.self.invariant)
