use Rattle.dt_nest.proofs.PathFans.{sums_over_paths as lemma_of}
use Rattle.dt_nest.proofs.path_laws.sums_over_paths.Goals as goal

pub returns : goal.returns
returns c = lemma_of
