use Rattle.std.proofs.Common.{ℕ, ◌<◌, ◌≤◌, List, length, Err, ap, sym, subst}
use Rattle.dt_plan.specs.Limits.{PlanView}
use Rattle.dt_events.specs.Events.{event_limit, events_of}
use Rattle.dt_run.proofs.PlanAnswers.{few_events, many_events, plan_made}
use Rattle.dt_run.proofs.planning.with_events.Goals as goal

pub returns-in-Ok : goal.returns-in-Ok
returns-in-Ok c = λ l h.
    let q : PlanView = c.args.plan in
    let few : length (events_of q) ≤ event_limit = subst (λ (es : List (ℕ × ℕ)). length es ≤ event_limit) c.in-Ok.ensures.pairs c.in-Ok.ensures.within in
    (few_events l q h few, sym (plan_made l q h), c.in-Ok.ensures.pairs)

pub returns-in-Err-TooManyEvents : goal.returns-in-Err-TooManyEvents
returns-in-Err-TooManyEvents c = λ l h.
    let many : event_limit < length (events_of c.args.plan) = c.in-Err-TooManyEvents.ensures.many (ap Err c.in-Err-TooManyEvents.field-0-is) in
    many_events l c.args.plan h many
