use Rattle.dt_leaf.specs.NodeWords.{cells_in}
use Rattle.dt_node.proofs.NodeSteps.{none_after, some_after, some_ready}
use Rattle.dt_node.proofs.node_runs.run_next.Goals as goal

pub returns-in-None-clause-after : goal.returns-in-None-clause-after
returns-in-None-clause-after g c =
    none_after (g.L.Locator.tensors c.args.loc.now) c.args.sched.now c.args.visits.now c.next.new.self (cells_in c.args.mem.now c.args.slots.now) c.requires.ready c.next.ensures.same c.in-None.ensures.goes

pub returns-in-Some-clause-ready : goal.returns-in-Some-clause-ready
returns-in-Some-clause-ready g c =
    some_ready (g.L.Locator.tensors c.args.loc.now) c.args.sched.now c.args.visits.now c.next.new.self (cells_in c.args.mem.now c.args.slots.now) c.requires.ready c.next.ensures.same c.in-Some.field-0 c.in-Some.ensures.goes
    (cells_in c.visit.new.mem c.args.slots.now) c.visit.ensures.cells

pub returns-in-Some-clause-after : goal.returns-in-Some-clause-after
returns-in-Some-clause-after g c =
    some_after (g.L.Locator.tensors c.args.loc.now) c.args.sched.now c.args.visits.now c.next.new.self (cells_in c.args.mem.now c.args.slots.now) c.requires.ready c.next.ensures.same c.in-Some.field-0 c.in-Some.ensures.goes
    (cells_in c.visit.new.mem c.args.slots.now) c.visit.ensures.cells
