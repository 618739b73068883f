use Rattle.dt_nest.proofs.PathVisits.{visits_follow}
use Rattle.dt_nest.proofs.path_laws.visits_follow_paths.Goals as goal

pub returns : goal.returns
returns c = visits_follow
