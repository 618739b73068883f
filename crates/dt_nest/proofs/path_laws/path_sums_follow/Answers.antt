use Rattle.dt_nest.proofs.PathSums.{sums_follow as lemma_of}
use Rattle.dt_nest.proofs.path_laws.path_sums_follow.Goals as goal

pub returns : goal.returns
returns c = lemma_of
