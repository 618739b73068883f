use Rattle.dt_bounds.proofs.PathTasks.{tasks_add_the_sum as lemma_of}
use Rattle.dt_bounds.proofs.path_laws.tasks_add_the_sum.Goals as goal

pub returns : goal.returns
returns c = lemma_of
