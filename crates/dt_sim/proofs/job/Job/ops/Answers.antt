use Rattle.std.proofs.Common.{ap, ◌∙◌}
use Rattle.dt_plan.specs.Operations.{ops_of}
use Rattle.dt_sim.proofs.PlanParts.{planned_ops}
use Rattle.dt_sim.proofs.job.Job.ops.Goals as goal

pub returns : goal.returns
returns g c = c.ops.ensures.ops ∙ planned_ops _ c.self.inside.plan.now c.self.invariant ∙ ap ops_of c.self.view_is
