use Rattle.dt_run.proofs.EveryOrder.{orders_agree}
use Rattle.dt_run.proofs.laws.all_orders_agree.Goals as goal

pub returns : goal.returns
returns g s h u allowed = orders_agree s h u allowed
