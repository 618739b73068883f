use Rattle.dt_nest.proofs.PathDepths.{task_loops as lemma_of}
use Rattle.dt_nest.proofs.path_laws.task_has_loops.Goals as goal

pub returns : goal.returns
returns c = lemma_of
