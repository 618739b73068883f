use Rattle.dt_nest.proofs.PathFilters.{visits_extend as lemma_of}
use Rattle.dt_nest.proofs.path_laws.visits_extend_paths.Goals as goal

pub returns : goal.returns
returns c = lemma_of
