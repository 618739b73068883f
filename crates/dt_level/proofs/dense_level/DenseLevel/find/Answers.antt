use Rattle.std.proofs.Common.{arith}
use Rattle.dt_level.proofs.DenseLemmas.{dense_found, dense_missing}
use Rattle.dt_level.proofs.dense_level.DenseLevel.find.Goals as goal

pub returns-then-x-self : goal.returns-then-x-self
returns-then-x-self c = dense_missing c.self.inside.extent c.self.inside.parents c.args.parent c.args.x _ c.self.view_is c.requires (omega arith)

pub returns : goal.returns
returns c = dense_found c.self.inside.extent c.self.inside.parents c.args.parent c.args.x _ c.self.view_is c.requires (omega arith)
