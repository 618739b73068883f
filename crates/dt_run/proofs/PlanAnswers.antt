-- What a plan's end, or its events, say of the first limit that a job passes, and what a job gives for its plan's text.
use Rattle.std.proofs.Common.{◌≡◌, ℕ, ◌<◌, ◌≤◌, Bool, true, false, List, [], ◌∷◌, length, arith, map, nat_lt, Option, Some, None, Result, Ok, Err, IfOk, refl, sym, ap, subst, ◌∙◌, if◌then◌else◌}
use Rattle.std.proofs.lemmas.Bool.{lt-ltb, le-ltb}
use Rattle.dt_model.specs.Positions.{StoredTensor}
use Rattle.dt_model.specs.declared.stmt.Stmt.{Stmt}
use Rattle.dt_place.specs.Machines.{dims_of}
use Rattle.dt_plan.specs.Layouts.{Layout}
use Rattle.dt_plan.specs.Limits.{Fails, PlanView, bound_sum, has_too_many_visits, plan_of, plan_view, unit_count}
use Rattle.dt_plan.specs.Operations.{ops_of}
use Rattle.dt_plan.specs.declared.parts.Part.{Part}
use Rattle.dt_plan.specs.declared.plan_end.PlanEnd.{PlanEnd}
use Rattle.dt_plan.specs.declared.plan_end.PlanEnd.TheVariants as ends
use Rattle.dt_events.specs.Events.{event_limit, events_of}
use Rattle.dt_report.specs.PlanText.{plan_text_of}
use Rattle.dt_tensor.specs.Packed.{stored_of}
use Rattle.dt_job.specs.Jobs.{IsJob}
use Rattle.dt_job.specs.PartsOf.{ArePartsOf}
use Rattle.dt_job.specs.declared.job.Job.{Job}
use Rattle.dt_refusal.specs.declared.plan_cause.PlanCause.{PlanCause}
use Rattle.dt_refusal.specs.declared.plan_cause.PlanCause.TheVariants as plan_cause
use Rattle.dt_run.specs.declared.form.Form.{Form}
use Rattle.dt_run.specs.declared.form.Form.TheVariants as form
use Rattle.dt_run.specs.Outcome.{form_text}
use Rattle.dt_run.specs.Planning.{job_layout, job_plan_text, limit_at, limit_of, text_under}

-- a plan by the tests of its four limits
abbrev chain : Bool → Bool → Bool → Bool → PlanView → Result PlanView PlanEnd
chain v w o u p = if v then Err ends.TooManyVisits else if w then Err ends.TooManyWords else if o then Err ends.TooManyOps else if u then Err ends.TooManyUnits else Ok p

-- the first limit by five tests
abbrev limits : Bool → Bool → Bool → Bool → Bool → Option PlanCause
limits v w o u e =
    if v then Some plan_cause.TooManyVisits else if w then Some plan_cause.TooManyWords else if o then Some plan_cause.TooManyOps else if u then Some plan_cause.TooManyUnits else if e then Some plan_cause.TooManyEvents
    else None

ended : (v w o u e : Bool) (p : PlanView) (end : PlanEnd) (c : PlanCause) → Fails end (chain v w o u p) → limit_at end ≡ Some c → limits v w o u e ≡ Some c
ended true w o u e p ends.TooManyVisits c f h = h
ended true w o u e p ends.TooManyWords c f h = cc
ended true w o u e p ends.TooManyOps c f h = cc
ended true w o u e p ends.TooManyUnits c f h = cc
ended false true o u e p ends.TooManyVisits c f h = cc
ended false true o u e p ends.TooManyWords c f h = h
ended false true o u e p ends.TooManyOps c f h = cc
ended false true o u e p ends.TooManyUnits c f h = cc
ended false false true u e p ends.TooManyVisits c f h = cc
ended false false true u e p ends.TooManyWords c f h = cc
ended false false true u e p ends.TooManyOps c f h = h
ended false false true u e p ends.TooManyUnits c f h = cc
ended false false false true e p ends.TooManyVisits c f h = cc
ended false false false true e p ends.TooManyWords c f h = cc
ended false false false true e p ends.TooManyOps c f h = cc
ended false false false true e p ends.TooManyUnits c f h = h
ended false false false false e p ends.TooManyVisits c f h = cc
ended false false false false e p ends.TooManyWords c f h = cc
ended false false false false e p ends.TooManyOps c f h = cc
ended false false false false e p ends.TooManyUnits c f h = cc
ended v w o u e p ends.NoMemory c f h = cc

made : (v w o u e : Bool) (p q : PlanView) → chain v w o u p ≡ Ok q → (p ≡ q) × (limits v w o u e ≡ (if e then Some plan_cause.TooManyEvents else None))
made true w o u e p q h = cc
made false true o u e p q h = cc
made false false true u e p q h = cc
made false false false true e p q h = cc
made false false false false e p q h = (cc, refl)

unpassed : (v w o u e : Bool) → limits v w o u e ≡ None → v ≡ false
unpassed true w o u e h = cc
unpassed false w o u e h = refl

module _ (l : Layout) where
  abbrev visits : Bool
  visits = has_too_many_visits l.parts

  abbrev words : Bool
  words = nat_lt 16777216 (bound_sum l)

  abbrev ops : Bool
  ops = nat_lt 8192 (length (ops_of l))

  abbrev units : Bool
  units = nat_lt 33554432 (unit_count l)

  abbrev events : Bool
  events = nat_lt event_limit (length (events_of (plan_view l)))

  plan_is : plan_of l ≡ chain visits words ops units (plan_view l)
  unfolding plan_of
  plan_is = refl

  limit_is : limit_of l ≡ limits visits words ops units events
  unfolding limit_of
  limit_is = refl

  -- where it passes no limit it has no more visits than a plan may have
  pub within_visits : limit_of l ≡ None → has_too_many_visits l.parts ≡ false
  within_visits h = unpassed visits words ops units events (sym limit_is ∙ h)

  -- the limit that ended a plan is the first that is passed
  pub ended_at : (end : PlanEnd) (c : PlanCause) → Fails end (plan_of l) → limit_at end ≡ Some c → limit_of l ≡ Some c
  ended_at end c f h = limit_is ∙ ended visits words ops units events (plan_view l) end c (subst (Fails end) plan_is f) h

  -- the plan that is made is the layout's
  pub plan_made : (q : PlanView) → plan_of l ≡ Ok q → plan_view l ≡ q
  plan_made q h = (made visits words ops units events (plan_view l) q (sym plan_is ∙ h)).0

  of_events : (q : PlanView) → plan_of l ≡ Ok q → (e : Bool) → nat_lt event_limit (length (events_of q)) ≡ e → limit_of l ≡ (if e then Some plan_cause.TooManyEvents else None)
  of_events q h e t =
      limit_is ∙ (made visits words ops units events (plan_view l) q (sym plan_is ∙ h)).1
      ∙ ap (λ (b : Bool). if b then Some plan_cause.TooManyEvents else None) (ap (λ (p : PlanView). nat_lt event_limit (length (events_of p))) (plan_made q h) ∙ t)

  -- it passes no limit where its events are few
  pub few_events : (q : PlanView) → plan_of l ≡ Ok q → length (events_of q) ≤ event_limit → limit_of l ≡ None
  few_events q h few = of_events q h false (le-ltb event_limit (length (events_of q)) few)

  -- it has too many events
  pub many_events : (q : PlanView) → plan_of l ≡ Ok q → event_limit < length (events_of q) → limit_of l ≡ Some plan_cause.TooManyEvents
  many_events q h many = of_events q h true (lt-ltb event_limit (length (events_of q)) many)

-- there is a part for each statement
parts_count : (dims : List ℕ) (stored : List StoredTensor) (names : List (List ℕ)) (stmts : List Stmt) (parts : List Part) → ArePartsOf dims stored names stmts parts → length stmts ≡ length parts
parts_count dims stored names [] [] h = refl
parts_count dims stored names [] (q ∷ qs) h = absurd h
parts_count dims stored names (s ∷ ss) [] h = absurd h
parts_count dims stored names (s ∷ ss) (q ∷ qs) h = omega (arith, parts_count dims stored names ss qs h.1)

-- and a text for each part
pub job_headed : (j : Job) → ((stmts : List Stmt) × IsJob stmts j) → length j.heads ≡ length j.parts
job_headed j (stmts, h) = h.headed ∙ parts_count (dims_of j.machine) (map stored_of j.tensors) j.names stmts j.parts h.parts

-- a plan's text under the statements of its job is what is printed of the job's plan
pub text_by : {E : Type 0} (j : Job) (plan : PlanView) (events : List (ℕ × ℕ)) (parts : List Part) (r : Result (List ℕ) E) → plan ≡ plan_view (job_layout j) → events ≡ events_of plan → parts ≡ j.parts
    → IfOk r (λ t. t ≡ plan_text_of plan events parts j.heads) → IfOk r (λ t. t ≡ job_plan_text j)
text_by j plan events parts (Err e) p q s h = tt
text_by j plan events parts (Ok t) p q s h =
    h ∙ ap (λ (ps : List Part). plan_text_of plan events ps j.heads) s
    ∙ ap (λ (es : List (ℕ × ℕ)). plan_text_of plan es j.parts j.heads) q
    ∙ ap (λ (v : PlanView). text_under j v) p

-- it is so under the statements of a job, whichever they are, for the form that prints plans
pub for_stmts : {E : Type 0} (j : Job) (f : Form) (r : Result (List ℕ) E) → f ≡ form.Plan → IfOk r (λ t. t ≡ job_plan_text j) → IfOk r (λ t. (stmts : List Stmt) → IsJob stmts j → t ≡ form_text f (record { job = j; stmts = stmts }))
for_stmts j f (Err e) p h = tt
for_stmts j f (Ok t) p h = λ stmts is. h ∙ ap (λ (g : Form). form_text g (record { job = j; stmts = stmts })) (sym p)
