use Rattle.dt_nest.proofs.PathUnions.{visits_follow_visited as lemma_of}
use Rattle.dt_nest.proofs.path_laws.visits_follow_visited.Goals as goal

pub returns : goal.returns
returns c = lemma_of
