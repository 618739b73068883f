use Rattle.std.proofs.Common.{List, map, sym, subst}
use Rattle.std.specs.List.{AllByRecursion}
use Rattle.dt_nest.specs.FitsStored.{FitsStored}
use Rattle.dt_plan.specs.declared.parts.Part.{Part}
use Rattle.dt_tensor.specs.Packed.{stored_of}
use Rattle.dt_job.proofs.JobPlans.{job_fits}
use Rattle.dt_plan_tests.proofs.plans.plan.Goals as goal

pub plan_of-requires-clause-fits : goal.plan_of-requires-clause-fits
plan_of-requires-clause-fits c =
    subst (λ (parts : List Part). AllByRecursion (λ (p : Part). FitsStored (map stored_of c.args.job.now.tensors) p.sched) parts) (sym c.as_slice.ensures) (job_fits c.args.job.now c.requires)
