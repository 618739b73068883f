use Rattle.dt_plan.proofs.ListOrder.{list_has as lemma_of}
use Rattle.dt_plan.proofs.laws.list_has_named.Goals as goal

pub returns : goal.returns
returns c = lemma_of
