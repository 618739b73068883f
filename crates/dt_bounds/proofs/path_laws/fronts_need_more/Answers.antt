use Rattle.dt_bounds.proofs.PathNeeds.{fronts_need as lemma_of}
use Rattle.dt_bounds.proofs.path_laws.fronts_need_more.Goals as goal

pub returns : goal.returns
returns c = lemma_of
