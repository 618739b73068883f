use Rattle.std.proofs.Common.{◌++◌}
use Rattle.std.specs.List.{flat_map}
use Rattle.dt_base.specs.Ranges.{below}
use Rattle.dt_plan.specs.Brackets.{node_ops}
use Rattle.dt_plan.specs.Keeps.{Keeps}
use Rattle.dt_plan.proofs.brackets.push_brackets.Given as goal

abbrev pub invariant-loop-node : goal.invariant-loop-node
invariant-loop-node g l =
    let m = g.O.Outlined.outline l.fn.nest in
    Keeps l.fn.ops (flat_map m.zeros (below m.nodes) ++ flat_map (node_ops m) (below l.node)) l.ops
