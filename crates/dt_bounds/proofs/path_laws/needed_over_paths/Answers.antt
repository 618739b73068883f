use Rattle.dt_bounds.proofs.PathNeeds.{needed_over_paths as lemma_of}
use Rattle.dt_bounds.proofs.path_laws.needed_over_paths.Goals as goal

pub returns : goal.returns
returns c = lemma_of
