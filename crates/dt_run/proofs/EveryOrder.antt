-- Every order of a job that is run: defined, within the bounds, with the statements' final numbers at its end.
use Rattle.std.proofs.Common.{◌≡◌, ℕ, List, ◌++◌, append-nil, length, map, Option, None, Some, Result, Ok, Err, refl, sym, ap, ◌∙◌, subst}
use Rattle.std.specs.Prelude.{IfOk, IfSome}
use Rattle.std.specs.Io.KnownBytes.{Consumes, IsAtEnd}
use Rattle.std.specs.List.{AllByRecursion, zip}
use Rattle.dt_base.specs.Ranges.{below}
use Rattle.dt_base.proofs.Ranges.{length-below}
use Rattle.dt_model.specs.declared.cause.Cause.{Cause}
use Rattle.dt_model.specs.declared.stmt.Stmt.{Stmt}
use Rattle.dt_nest.specs.Lawful.{IsLawful}
use Rattle.dt_nest.specs.Meaning.{Entries}
use Rattle.dt_place.specs.Machines.{IsMachine, dims_of}
use Rattle.dt_argument.specs.Orders.{IsAllowed, counts_of}
use Rattle.dt_plan.specs.Layouts.{Layout}
use Rattle.dt_plan.specs.declared.parts.Part.{Part}
use Rattle.dt_events.specs.Jobs.{state_of, at_of}
use Rattle.dt_events.specs.Placed.{numbers_after_all}
use Rattle.dt_events.proofs.JobRuns.{allowed_run, allowed_turns, complete_leave, parts_done, seconds}
use Rattle.dt_events.proofs.LiveBounds.{live_bounded}
use Rattle.dt_job.specs.Jobs.{IsJob}
use Rattle.dt_job.specs.PartsOf.{ArePartsOf}
use Rattle.dt_job.specs.Read.{StatedJob, job_of}
use Rattle.dt_job.specs.declared.job.Job.{Job}
use Rattle.dt_run.specs.EveryOrder.{AllOrdersAgree, AreWords, HaveOrders, IsAccepted, OrdersAgree, final_numbers, given_numbers, job_listing}
use Rattle.dt_run.specs.Forms.{asked_bytes, job_bytes}
use Rattle.dt_run.specs.Outcome.{given_of}
use Rattle.dt_run.specs.Planning.{job_layout, limit_of}
use Rattle.dt_run.specs.declared.form.Form.{Form}
use Rattle.dt_run.specs.declared.form.Form.TheVariants as form
use Rattle.dt_run.proofs.FinalNumbers.{all_numbers}
use Rattle.dt_run.proofs.GivenTensors.{given_over}
use Rattle.dt_run.proofs.JobReady.{job_numbers, job_ready}
use Rattle.dt_run.proofs.Workless.{job_workless}

module _ (s : StatedJob) (h : IsAccepted s) where
  abbrev L : Layout
  L = job_layout s.job

  abbrev numbered : List (ℕ × Part)
  numbered = zip (below (length s.job.parts)) s.job.parts

  firsts : map (λ (y : ℕ × Part). y.1) numbered ≡ s.job.parts
  firsts = seconds (below (length s.job.parts)) s.job.parts (length-below (length s.job.parts))

  -- the numbers after all parts are the statements' final ones
  ends_final : numbers_after_all L.stored s.job.parts (given_numbers s) ≡ final_numbers s
  ends_final =
      ap (λ (ps : List Part). numbers_after_all L.stored ps (given_numbers s)) (sym firsts)
      ∙ all_numbers L (dims_of s.job.machine) s.job.names (job_ready s h).placed s.stmts numbered
      (parts_done L (job_ready s h) (given_numbers s) (job_numbers s h))
      (subst (ArePartsOf (dims_of s.job.machine) L.stored s.job.names s.stmts) (sym firsts) h.job.parts)
      (given_of s.job) (given_over s.job.tensors) (job_numbers s h)

pub orders_agree : AllOrdersAgree
orders_agree s h u allowed =
    let ready = job_ready s h in
    let numbers = job_numbers s h in
    let run = allowed_run (job_layout s.job) ready (given_numbers s) numbers u allowed in
    record {
      defined = run;
      turns = λ b enabled. allowed_turns (job_layout s.job) ready (given_numbers s) numbers u allowed b enabled;
      bounded = λ n. live_bounded (job_layout s.job) ready (given_numbers s) numbers u allowed (at_of (job_layout s.job) (given_numbers s) (counts_of u)) run n;
      ends = λ full. complete_leave (job_layout s.job) ready (given_numbers s) numbers u allowed full
          ∙ ap (λ (x : Entries). Some (state_of (job_layout s.job) x)) (ends_final s h);
    }

-- What an input has -------------------------------------------------------------------------------------------------------------

-- a job that was read has all its orders
pub job_orders : (bytes : List ℕ) (j : Job) (stmts : List Stmt) → job_of bytes ≡ Ok (record { job = j; stmts = stmts }) → IsJob stmts j → IsMachine j.machine → AllByRecursion (λ (p : Part). IsLawful p.sched) j.parts → AreWords j.tensors → HaveOrders bytes
job_orders bytes j stmts read is machine lawful words s q =
    subst (λ (x : StatedJob). limit_of (job_layout x.job) ≡ None → (u : List ℕ) → IsAllowed (job_listing x) u → OrdersAgree x u) (same (sym read ∙ q)) (λ limit u allowed. orders_agree here (accepted limit) u allowed)
  where
    here : StatedJob
    here = record { job = j; stmts = stmts }

    same : ◌≡◌ {A = Result StatedJob (ℕ × Cause)} (Ok here) (Ok s) → here ≡ s
    same e = cc

    accepted : limit_of (job_layout j) ≡ None → IsAccepted here
    accepted limit = record { job = is; machine = machine; lawful = lawful; workless = job_workless bytes here read; words = words; limit = limit }

-- an input that is no job has none
pub no_orders : (bytes : List ℕ) (e : ℕ × Cause) → job_of bytes ≡ Err e → HaveOrders bytes
no_orders bytes e refused s q limit u allowed = absurd (let z : ◌≡◌ {A = Result StatedJob (ℕ × Cause)} (Err e) (Ok s) = sym refused ∙ q in cc)

-- what holds at all holds where there is a value
pub if_any : {T E : Type 0} (P : Type 0) (r : Result T E) → P → IfOk r (λ x. P)
if_any P (Ok x) h = h
if_any P (Err e) h = tt

-- what holds of the bytes that were taken to the end holds of those that a form asks for, where they are told
pub asked_have : (P : List ℕ → Type 0) (f : Form) (o : Option Form) (old new : Option (List ℕ)) (bytes : List ℕ) → Some f ≡ o → Consumes old new bytes → IsAtEnd new → P bytes → IfSome (asked_bytes o old) P
asked_have P f o old new bytes e c n h = subst (λ (x : Option Form). IfSome (asked_bytes x old) P) e (subst (λ (t : Option (List ℕ)). IfSome t P) (sym (told f)) (taken old new c n))
  where
    told : (g : Form) → job_bytes g old ≡ old
    told form.Run = refl
    told form.Plan = refl

    taken : (old new : Option (List ℕ)) → Consumes old new bytes → IsAtEnd new → IfSome old P
    taken None new c n = tt
    taken (Some xs) None c n = absurd c
    taken (Some xs) (Some ys) c n = subst P (sym (c ∙ ap (λ (l : List ℕ). bytes ++ l) n ∙ append-nil bytes)) h
