use Rattle.dt_leaf.proofs.Shorts.{items_short}
use Rattle.dt_leaf.proofs.laws.items_are_short.Goals as goal

pub returns : goal.returns
returns c = items_short
