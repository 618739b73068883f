use Rattle.dt_nest.proofs.PathSums.{sums_read as lemma_of}
use Rattle.dt_nest.proofs.path_laws.path_sums_read_tensors.Goals as goal

pub returns : goal.returns
returns c = lemma_of
