use Rattle.dt_bounds.proofs.PathHeld.{tasks_are_defined as lemma_of}
use Rattle.dt_bounds.proofs.path_laws.tasks_are_defined.Goals as goal

pub returns : goal.returns
returns c = lemma_of
