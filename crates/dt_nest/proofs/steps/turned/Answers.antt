use Rattle.std.proofs.Common.{◌∙◌, sym, subst}
use Rattle.dt_nest.specs.Schedule.{seen}
use Rattle.dt_nest.specs.Tree.{tree_of}
use Rattle.dt_nest.specs.Run.{run_tests}
use Rattle.dt_nest.specs.Visited.{StepIs}
use Rattle.dt_nest.proofs.StepFacts.{can_turn, step_left, step_passes, step_visits}
use Rattle.dt_nest.proofs.steps.turned.Goals as goal

pub step-requires-clause-turn : goal.step-requires-clause-turn
step-requires-clause-turn g c = can_turn (seen c.args.conditions.now.parts.now) c.args.path.now c.args.inner_loops.now c.requires.inner_loops c.requires.on.lawful

pub returns-in-Comes-clause-turns : goal.returns-in-Comes-clause-turns
returns-in-Comes-clause-turns g c =
    let s = subst (StepIs (run_tests (g.L.Locator.tensors c.args.conditions.now.loc.now) (seen c.args.conditions.now.parts.now)) (tree_of c.args.conditions.now.parts.now.nest) c.args.inner_loops.now c.loop.cursor.slots.items c.step.new.cursor.slots.items) c.in-Comes.is c.step.ensures.steps in
    let m = step_visits (g.L.Locator.tensors c.args.conditions.now.loc.now) (seen c.args.conditions.now.parts.now) c.args.path.now c.loop.cursor.slots.items c.step.new.cursor.slots.items c.args.inner_loops.now c.requires.inner_loops c.loop.invariant.on s.0 s.1 in
    (c.loop.invariant.left ∙ m.0, m.1)

pub loop-preserved : goal.loop-preserved
loop-preserved g c =
    let s = subst (StepIs (run_tests (g.L.Locator.tensors c.args.conditions.now.loc.now) (seen c.args.conditions.now.parts.now)) (tree_of c.args.conditions.now.parts.now.nest) c.args.inner_loops.now c.loop.cursor.slots.items c.step.new.cursor.slots.items) c.in-Passes.is c.step.ensures.steps in
    record {
      on = step_passes (g.L.Locator.tensors c.args.conditions.now.loc.now) (seen c.args.conditions.now.parts.now) c.args.path.now c.loop.cursor.slots.items c.step.new.cursor.slots.items c.args.inner_loops.now c.requires.inner_loops c.loop.invariant.on (c.step.ensures.size.0 ∙ sym c.loop.invariant.room.0) s.0 s.1;
      left = c.loop.invariant.left ∙ step_left (g.L.Locator.tensors c.args.conditions.now.loc.now) (seen c.args.conditions.now.parts.now) c.args.path.now c.loop.cursor.slots.items c.step.new.cursor.slots.items c.args.inner_loops.now c.requires.inner_loops c.loop.invariant.on s.0 s.1;
      table = c.step.ensures.table;
      room = c.step.ensures.size;
    }
