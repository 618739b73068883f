use Rattle.dt_nest.proofs.PathDepths.{are_paths as lemma_of}
use Rattle.dt_nest.proofs.path_laws.assignments_are_paths.Goals as goal

pub returns : goal.returns
returns c = lemma_of
