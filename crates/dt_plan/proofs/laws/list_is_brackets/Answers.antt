use Rattle.dt_plan.proofs.ListOrder.{list_is as lemma_of}
use Rattle.dt_plan.proofs.laws.list_is_brackets.Goals as goal

pub returns : goal.returns
returns c = lemma_of
