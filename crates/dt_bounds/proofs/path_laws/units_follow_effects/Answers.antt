use Rattle.dt_bounds.proofs.PathUnitSums.{units_follow_effects as lemma_of}
use Rattle.dt_bounds.proofs.path_laws.units_follow_effects.Goals as goal

pub returns : goal.returns
returns c = lemma_of
