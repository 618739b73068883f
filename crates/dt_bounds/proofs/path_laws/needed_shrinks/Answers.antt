use Rattle.dt_bounds.proofs.PathNeeds.{needed_shrinks}
use Rattle.dt_bounds.proofs.path_laws.needed_shrinks.Goals as goal

pub returns : goal.returns
returns c = needed_shrinks
