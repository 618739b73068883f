use Rattle.dt_bounds.proofs.PathAccesses.{accesses_needed as lemma_of}
use Rattle.dt_bounds.proofs.path_laws.accesses_are_needed.Goals as goal

pub returns : goal.returns
returns c = lemma_of
