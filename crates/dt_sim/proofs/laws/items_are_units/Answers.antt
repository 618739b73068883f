use Rattle.dt_sim.proofs.TaskDone.{item_done, item_ready}
use Rattle.dt_sim.proofs.laws.items_are_units.Goals as goal

pub returns : goal.returns
returns c l o p r item mems slots due = (item_ready l o p r item mems slots due, λ after e rest. item_done l o p r item mems slots due after e rest)
