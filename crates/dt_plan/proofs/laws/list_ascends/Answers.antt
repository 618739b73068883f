use Rattle.dt_plan.proofs.ListOrder.{list_ascends as lemma_of}
use Rattle.dt_plan.proofs.laws.list_ascends.Goals as goal

pub returns : goal.returns
returns c = lemma_of
