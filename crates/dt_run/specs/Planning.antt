-- The plan that a job has, with its events, and the first limit that it passes.
use Rattle.std.specs.Prelude.{ℕ, List, length, map, nat_lt, if◌then◌else◌, Option, Some, None}
use Rattle.dt_tensor.specs.Packed.{stored_of}
use Rattle.dt_plan.specs.Layouts.{Layout, layout_of}
use Rattle.dt_plan.specs.Limits.{PlanView, bound_sum, has_too_many_visits, plan_view, unit_count}
use Rattle.dt_plan.specs.Operations.{ops_of}
use Rattle.dt_plan.specs.declared.plan_end.PlanEnd.{PlanEnd}
use Rattle.dt_plan.specs.declared.plan_end.PlanEnd.TheVariants as ends
use Rattle.dt_events.specs.Events.{event_limit, events_of}
use Rattle.dt_report.specs.PlanText.{plan_text_of}
use Rattle.dt_job.specs.declared.job.Job.{Job}
use Rattle.dt_refusal.specs.declared.plan_cause.PlanCause.{PlanCause}
use Rattle.dt_refusal.specs.declared.plan_cause.PlanCause.TheVariants as plan_cause

-- a job as its plan sees it
abbrev pub job_layout : Job → Layout
job_layout j = layout_of j.machine (map stored_of j.tensors) j.places j.parts

-- the first number of a plan, or of its events, that passes its limit
unfoldable pub limit_of : Layout → Option PlanCause
limit_of l =
    if has_too_many_visits l.parts then Some plan_cause.TooManyVisits
    else if nat_lt 16777216 (bound_sum l) then Some plan_cause.TooManyWords
    else if nat_lt 8192 (length (ops_of l)) then Some plan_cause.TooManyOps
    else if nat_lt 33554432 (unit_count l) then Some plan_cause.TooManyUnits
    else if nat_lt event_limit (length (events_of (plan_view l))) then Some plan_cause.TooManyEvents
    else None

-- the limit that ended a plan; want of memory is none
abbrev pub limit_at : PlanEnd → Option PlanCause
limit_at ends.TooManyVisits = Some plan_cause.TooManyVisits
limit_at ends.TooManyWords = Some plan_cause.TooManyWords
limit_at ends.TooManyOps = Some plan_cause.TooManyOps
limit_at ends.TooManyUnits = Some plan_cause.TooManyUnits
limit_at ends.NoMemory = None

-- the text of a plan under the statements of a job
abbrev pub text_under : Job → PlanView → List ℕ
text_under j p = plan_text_of p (events_of p) j.parts j.heads

-- what is printed of a job's plan
abbrev pub job_plan_text : Job → List ℕ
job_plan_text j = text_under j (plan_view (job_layout j))
