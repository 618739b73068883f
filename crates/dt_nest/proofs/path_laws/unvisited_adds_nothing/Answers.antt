use Rattle.dt_nest.proofs.PathUnions.{unvisited_adds as lemma_of}
use Rattle.dt_nest.proofs.path_laws.unvisited_adds_nothing.Goals as goal

pub returns : goal.returns
returns c = lemma_of
