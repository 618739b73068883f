use Rattle.std.proofs.Common.{◌≡◌, length, ap, ◌∙◌, arith}
use Rattle.std.proofs.lemmas.List.{length-map}
use Rattle.dt_base.specs.Ranges.{below}
use Rattle.dt_base.proofs.Ranges.{length-below}
use Rattle.dt_model.specs.Positions.{tensor_at}
use Rattle.dt_place.specs.Homes.{home_of}
use Rattle.dt_place.specs.Machines.{nodes_of}
use Rattle.dt_place.proofs.homes.homes_on.Goals as goal

pub returns-clause-count : goal.returns-clause-count
returns-clause-count g c =
    let all : c.loop-node.node ≡ nodes_of c.args.machine.now = omega (arith, c.loop-node-test.false, c.loop-node.auto.node-end, c.nodes-node-end.ensures.count) in
    ap length c.loop-node.invariant ∙ length-map (below c.loop-node.node) (home_of c.args.placement.now c.args.machine.now (tensor_at (g.L.Locator.tensors c.args.loc.now) c.args.tensor)) ∙ length-below c.loop-node.node ∙ all
