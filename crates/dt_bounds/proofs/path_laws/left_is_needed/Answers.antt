use Rattle.dt_bounds.proofs.PathAccesses.{left_needed as lemma_of}
use Rattle.dt_bounds.proofs.path_laws.left_is_needed.Goals as goal

pub returns : goal.returns
returns c = lemma_of
