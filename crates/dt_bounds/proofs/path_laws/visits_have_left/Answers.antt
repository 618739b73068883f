use Rattle.dt_bounds.proofs.PathInside.{visits_have_left as lemma_of}
use Rattle.dt_bounds.proofs.path_laws.visits_have_left.Goals as goal

pub returns : goal.returns
returns c = lemma_of
