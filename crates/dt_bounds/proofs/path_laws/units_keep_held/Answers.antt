use Rattle.dt_bounds.proofs.PathHeld.{units_keep_held as lemma_of}
use Rattle.dt_bounds.proofs.path_laws.units_keep_held.Goals as goal

pub returns : goal.returns
returns c = lemma_of
