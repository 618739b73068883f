use Rattle.std.specs.List.{flat_map}
use Rattle.dt_base.specs.Ranges.{below}
use Rattle.dt_plan.specs.Brackets.{node_ops}
use Rattle.dt_plan.proofs.BlockSteps.{nodes_more}
use Rattle.dt_plan.proofs.brackets.push_brackets.Goals as goal

pub loop-node-preserved : goal.loop-node-preserved
loop-node-preserved g c =
    let m = g.O.Outlined.outline c.args.nest.now in
    nodes_more (node_ops m) c.loop-node.node (flat_map m.zeros (below m.nodes)) c.args.ops.now c.loop-node.ops c.push_node.new.ops c.loop-node.invariant c.in_ok-push_node.ensures
