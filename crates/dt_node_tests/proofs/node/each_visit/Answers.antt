use Rattle.std.proofs.Common.{[], ◌∷◌, ◌∙◌}
use Rattle.dt_node.proofs.NodeSteps.{rest_length}
use Rattle.dt_node_tests.proofs.node.each_visit.Goals as goal

pub visits-preserved : goal.visits-preserved
visits-preserved c = record {
  ready = c.run_next.ensures.ready;
  buffers = rest_length (0 ∷ 1 ∷ 2 ∷ []) c.visits.mem c.run_next.new.mem c.run_next.ensures.rest ∙ c.visits.invariant.buffers;
  room = c.run_next.ensures.room ∙ c.visits.invariant.room;
}
