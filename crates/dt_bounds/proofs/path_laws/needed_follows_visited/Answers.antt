use Rattle.dt_bounds.proofs.PathNeeds.{needed_follows_visited as lemma_of}
use Rattle.dt_bounds.proofs.path_laws.needed_follows_visited.Goals as goal

pub returns : goal.returns
returns c = lemma_of
