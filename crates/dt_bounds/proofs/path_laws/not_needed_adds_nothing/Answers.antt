use Rattle.dt_bounds.proofs.PathSilent.{not_needed_adds_nothing as lemma_of}
use Rattle.dt_bounds.proofs.path_laws.not_needed_adds_nothing.Goals as goal

pub returns : goal.returns
returns c = lemma_of
