use Rattle.std.proofs.Common.{◌<◌, sym, ap, ◌∙◌, subst, ℕ}
use Rattle.dt_place.specs.Machines.{nodes_of}
use Rattle.dt_plan.specs.Bounds.{buffers_of}
use Rattle.dt_plan.specs.Layouts.{Layout}
use Rattle.dt_sim.proofs.PlanParts.{planned_buffers, planned_nodes}
use Rattle.dt_sim.proofs.job.Job.buffers.Goals as goal

pub buffers-requires : goal.buffers-requires
buffers-requires g c =
    subst (λ (n : ℕ). c.args.node < n) (sym (planned_nodes _ c.self.inside.plan.now c.self.invariant ∙ ap (λ (l : Layout). nodes_of l.machine) c.self.view_is)) c.requires

pub returns : goal.returns
returns g c = c.buffers.ensures ∙ planned_buffers _ c.self.inside.plan.now c.self.invariant ∙ ap buffers_of c.self.view_is
