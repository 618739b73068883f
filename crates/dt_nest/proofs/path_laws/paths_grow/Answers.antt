use Rattle.dt_nest.proofs.PathFans.{paths_grow as lemma_of}
use Rattle.dt_nest.proofs.path_laws.paths_grow.Goals as goal

pub returns : goal.returns
returns c = lemma_of
