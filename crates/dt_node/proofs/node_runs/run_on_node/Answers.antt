use Rattle.std.proofs.Common.{List, length, ap, sym, ◌∙◌}
use Rattle.dt_nest.specs.Run.{Run}
use Rattle.dt_nest.specs.Visits.{Item}
use Rattle.dt_bounds.specs.TaskUnits.{units_after}
use Rattle.dt_leaf.specs.NodeWords.{cells_in}
use Rattle.dt_leaf.proofs.Cells.{rest_kept}
use Rattle.dt_node.proofs.NodeSteps.{rest_more, starts}
use Rattle.dt_node.proofs.node_runs.run_on_node.Goals as goal

pub visits-init : goal.visits-init
visits-init g c = record {
  ready =
      starts (g.L.Locator.tensors c.args.loc.now) c.args.sched.now (cells_in c.args.mem.now c.args.slots.now) c.in_ok-visits.visits c.in_ok-visits.ensures c.requires.fits.count c.parts-parts.ensures.lawful c.requires.held c.tasks_are_defined.ensures c.items_are_short.ensures;
  after = ap (λ (r : Run). units_after (g.L.Locator.tensors c.args.loc.now) c.args.sched.now r.left (cells_in c.args.mem.now c.args.slots.now)) c.in_ok-visits.ensures;
  rest = rest_kept c.args.slots.now c.args.mem.now;
  room = ap length c.as_mut_slice-values.ensures.value ∙ c.in_ok-room.ensures ∙ ap (λ (r : Run). length r.sched.names) c.in_ok-visits.ensures;
}

pub visits-preserved : goal.visits-preserved
visits-preserved g c = record {
  ready = c.run_next.ensures.ready;
  after = c.run_next.ensures.after ∙ c.visits.invariant.after;
  rest = rest_more c.args.slots.now c.args.mem.now c.visits.mem c.run_next.new.mem c.visits.invariant.rest c.run_next.ensures.rest;
  room = c.run_next.ensures.room ∙ c.visits.invariant.room;
}

pub returns-clause-ok : goal.returns-clause-ok
returns-clause-ok g c =
    sym (ap (λ (l : List Item). units_after (g.L.Locator.tensors c.args.loc.now) c.args.sched.now l (cells_in c.run_next.new.mem c.args.slots.now)) c.visits-test.ensures.fewer) ∙ c.run_next.ensures.after ∙ c.visits.invariant.after
