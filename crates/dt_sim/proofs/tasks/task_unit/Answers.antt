use Rattle.std.proofs.Common.{ap}
use Rattle.dt_plan.specs.Layouts.{Layout}
use Rattle.dt_sim.proofs.TaskUnits.{can_do_last, does_unit, has_room}
use Rattle.dt_sim.proofs.tasks.task_unit.Goals as goal

pub visit-requires-clause-can : goal.visit-requires-clause-can
visit-requires-clause-can g c =
    can_do_last c.args.job.now c.args.op c.args.unit c.args.at.now c.args.mems.now.items c.args.slots.now _ c.requires.due c.requires.last c.requires.over (g.L.Locator.tensors c.job.inside.loc.now) c.job.inside.parts.now c.op-op.result.now c.index-job-op.result c.index_mut-mem.result.now
    (ap (λ (l : Layout). l.stored) c.job.view_is) (ap (λ (l : Layout). l.parts) c.job.view_is) c.op-op.ensures c.index_mut-mem.ensures.value

pub visit-requires-clause-room : goal.visit-requires-clause-room
visit-requires-clause-room g c =
    has_room c.args.job.now c.args.op c.args.unit c.args.at.now c.args.mems.now.items c.args.slots.now _ c.requires.due c.requires.last c.requires.over (g.L.Locator.tensors c.job.inside.loc.now) c.job.inside.parts.now c.op-op.result.now c.index-job-op.result c.index_mut-mem.result.now
    (ap (λ (l : Layout). l.stored) c.job.view_is) (ap (λ (l : Layout). l.parts) c.job.view_is) c.op-op.ensures c.index_mut-mem.ensures.value

pub returns-clause-done : goal.returns-clause-done
returns-clause-done g c =
    does_unit c.args.job.now c.args.op c.args.unit c.args.at.now c.args.mems.now.items c.args.slots.now _ c.requires.due c.requires.last c.requires.over (g.L.Locator.tensors c.job.inside.loc.now) c.job.inside.parts.now c.op-op.result.now c.index-job-op.result c.index_mut-mem.result.now
    (ap (λ (l : Layout). l.stored) c.job.view_is) (ap (λ (l : Layout). l.parts) c.job.view_is) c.op-op.ensures c.index_mut-mem.ensures.value c.visit.new.mem c.visit.ensures.cells c.visit.ensures.rest
