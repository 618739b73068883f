use Rattle.std.proofs.Common.{◌≡◌, length}
use Rattle.dt_node_tests.proofs.node.fill.Given as goal

abbrev pub invariant-loop-pos : goal.invariant-loop-pos
invariant-loop-pos l = length l.mem ≡ length l.fn.mem
