use Rattle.dt_nest.proofs.PathUnions.{sums_follow_visited as lemma_of}
use Rattle.dt_nest.proofs.path_laws.sums_follow_visited.Goals as goal

pub returns : goal.returns
returns c = lemma_of
