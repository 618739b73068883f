use Rattle.dt_nest.proofs.PathFans.{paths_are_visited as lemma_of}
use Rattle.dt_nest.proofs.path_laws.paths_are_visited.Goals as goal

pub returns : goal.returns
returns c = lemma_of
