use Rattle.dt_bounds.proofs.PathNeeds.{needed_follows}
use Rattle.dt_bounds.proofs.path_laws.needed_follows_paths.Goals as goal

pub returns : goal.returns
returns c = needed_follows
