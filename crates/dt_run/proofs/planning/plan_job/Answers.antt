use Rattle.std.proofs.Common.{◌≡◌, List, map, Some, ap, sym, ◌∙◌, subst}
use Rattle.std.specs.List.{AllByRecursion}
use Rattle.dt_model.specs.Positions.{StoredTensor}
use Rattle.dt_nest.specs.FitsStored.{FitsStored}
use Rattle.dt_place.specs.declared.placements.Placement.{Placement}
use Rattle.dt_plan.specs.Layouts.{Layout, layout_of}
use Rattle.dt_plan.specs.Limits.{Fails, plan_of}
use Rattle.dt_plan.specs.declared.parts.Part.{Part}
use Rattle.dt_tensor.specs.Packed.{stored_of}
use Rattle.dt_job.proofs.JobPlans.{job_fits}
use Rattle.dt_run.specs.Planning.{job_layout, limit_at}
use Rattle.dt_run.proofs.PlanAnswers.{ended_at}
use Rattle.dt_run.proofs.planning.plan_job.Goals as goal

pub plan_of-made-requires-clause-fits : goal.plan_of-made-requires-clause-fits
plan_of-made-requires-clause-fits c =
    subst (λ (parts : List Part). AllByRecursion (λ (p : Part). FitsStored (map stored_of c.args.job.now.tensors) p.sched) parts) (sym c.as_slice.ensures) (job_fits c.args.job.now c.requires)

pub returns-in-Some : goal.returns-in-Some
returns-in-Some c =
    let j = c.args.job.now in
    let stored : List StoredTensor = map stored_of j.tensors in
    let same : layout_of j.machine stored c.as_slice-2.result.now c.as_slice.result.now ≡ job_layout j =
    ap (λ (places : List Placement). layout_of j.machine stored places c.as_slice.result.now) c.as_slice-2.ensures ∙ ap (λ (parts : List Part). layout_of j.machine stored j.places parts) c.as_slice.ensures in
    let fails : Fails c.in-Err.end (plan_of (job_layout j)) = subst (λ (l : Layout). Fails c.in-Err.end (plan_of l)) same c.in-Err.ensures in
    let cause : limit_at c.in-Err.end ≡ Some c.in-Some.cause = sym c.in-Some.ensures in
    ended_at (job_layout j) c.in-Err.end c.in-Some.cause fails cause
