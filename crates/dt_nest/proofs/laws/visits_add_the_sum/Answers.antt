use Rattle.dt_nest.proofs.RootApart.{visits_add}
use Rattle.dt_nest.proofs.laws.visits_add_the_sum.Goals as goal

pub returns : goal.returns
returns c = visits_add
