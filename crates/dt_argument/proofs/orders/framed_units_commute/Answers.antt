use Rattle.dt_argument.proofs.Commuting.{commute, defined_after}
use Rattle.dt_argument.proofs.orders.framed_units_commute.Goals as goal

pub returns : goal.returns
returns g c m n can_a can_b a b fa fb apart s = (commute m n can_a can_b a b fa fb apart s, defined_after m n can_a can_b a b fa fb apart s)
