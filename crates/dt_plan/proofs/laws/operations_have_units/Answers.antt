use Rattle.dt_plan.proofs.OperationUnits.{ops_have_units as lemma_of}
use Rattle.dt_plan.proofs.laws.operations_have_units.Goals as goal

pub returns : goal.returns
returns c = lemma_of
