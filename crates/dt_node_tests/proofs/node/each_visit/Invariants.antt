use Rattle.std.proofs.Common.{◌≡◌, [], ◌∷◌, length, map}
use Rattle.dt_leaf.specs.NodeWords.{cells_in}
use Rattle.dt_node.specs.Nodes.{IsReady}
use Rattle.dt_tensor.specs.Packed.{stored_of}
use Rattle.dt_node_tests.proofs.node.each_visit.Given as goal

abbrev pub invariant-visits : goal.invariant-visits
invariant-visits l = record {
  ready : IsReady (map stored_of l.fn.tensors) l.fn.sched l.visits (cells_in l.mem (0 ∷ 1 ∷ 2 ∷ []));
  buffers : length l.mem ≡ 3;
  room : length l.values ≡ length l.fn.sched.names;
}

abbrev pub decreases-visits : goal.decreases-visits
decreases-visits l = length l.visits.left
