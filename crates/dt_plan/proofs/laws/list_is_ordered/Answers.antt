use Rattle.dt_plan.proofs.ListOrder.{list_ordered as lemma_of}
use Rattle.dt_plan.proofs.laws.list_is_ordered.Goals as goal

pub returns : goal.returns
returns c = lemma_of
