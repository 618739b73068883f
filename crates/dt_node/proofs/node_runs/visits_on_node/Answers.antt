use Rattle.dt_leaf.specs.NodeWords.{cells_in}
use Rattle.dt_node.proofs.NodeSteps.{starts}
use Rattle.dt_node.proofs.node_runs.visits_on_node.Goals as goal

pub returns-clause-ready : goal.returns-clause-ready
returns-clause-ready g c =
    starts (g.L.Locator.tensors c.args.loc.now) c.args.sched.now (cells_in c.args.mem.now c.args.slots.now) c.in_ok-visits.visits c.in_ok-visits.ensures c.requires.fits.count c.parts-parts.ensures.lawful
    (c.holds_all.ensures.0 c.if-not-holds_all.false) c.tasks_are_defined.ensures c.items_are_short.ensures
