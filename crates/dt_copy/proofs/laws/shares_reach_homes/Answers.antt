use Rattle.dt_copy.proofs.Reaching.{shares_reach_homes}
use Rattle.dt_copy.proofs.laws.shares_reach_homes.Goals as goal

pub returns : goal.returns
returns c = shares_reach_homes
