use Rattle.dt_plan.proofs.OpFacts.{ops_are as lemma_of}
use Rattle.dt_plan.proofs.laws.operations_are_of_layout.Goals as goal

pub returns : goal.returns
returns c = lemma_of
