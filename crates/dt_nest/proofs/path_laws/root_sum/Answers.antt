use Rattle.dt_nest.proofs.PathSums.{root_sum as lemma_of}
use Rattle.dt_nest.proofs.path_laws.root_sum.Goals as goal

pub returns : goal.returns
returns c = lemma_of
