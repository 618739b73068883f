use Rattle.dt_bounds.proofs.PathTasks.{tasks_leave_others as lemma_of}
use Rattle.dt_bounds.proofs.path_laws.tasks_leave_others.Goals as goal

pub returns : goal.returns
returns c = lemma_of
