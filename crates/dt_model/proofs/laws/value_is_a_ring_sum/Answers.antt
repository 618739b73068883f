use Rattle.dt_model.proofs.RingLaws.{value_is_ring}
use Rattle.dt_model.proofs.laws.value_is_a_ring_sum.Goals as goal

pub returns : goal.returns
returns c = value_is_ring
