use Rattle.dt_nest.proofs.PathSums.{paths_add as lemma_of}
use Rattle.dt_nest.proofs.path_laws.paths_add_the_sum.Goals as goal

pub returns : goal.returns
returns c = lemma_of
