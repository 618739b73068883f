use Rattle.dt_bounds.proofs.PathHeld.{units_are_defined as lemma_of}
use Rattle.dt_bounds.proofs.path_laws.units_are_defined.Goals as goal

pub returns : goal.returns
returns c = lemma_of
