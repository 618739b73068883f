use Rattle.dt_sim.proofs.TaskCells.{leaves_rest, sees_node}
use Rattle.dt_sim.proofs.laws.tasks_see_their_node.Goals as goal

pub returns : goal.returns
returns c = record {
  sees = λ l mems n k slots are e. sees_node l k slots are mems n e;
  leaves = λ l mems n k slots after are e size there rest. leaves_rest l k slots are mems n after size there rest;
}
