-- Every order of a job: what its plan's events allow, defined at each unit, within the bounds, with one end.
use Rattle.std.specs.Prelude.{◌≡◌, ℕ, suc, ◌<◌, ◌≤◌, ◌^◌, true, List, None, Some, Ok}
use Rattle.std.specs.List.{AllByRecursion}
use Rattle.dt_model.specs.Value.{final_of}
use Rattle.dt_nest.specs.Lawful.{IsLawful}
use Rattle.dt_nest.specs.Meaning.{Entries}
use Rattle.dt_nest.specs.World.{entries_of}
use Rattle.dt_place.specs.Machines.{IsMachine}
use Rattle.dt_plan.specs.Bounds.{bound_of}
use Rattle.dt_plan.specs.Operations.{ops_of}
use Rattle.dt_plan.specs.declared.parts.Part.{Part}
use Rattle.dt_argument.specs.Listings.{Listing}
use Rattle.dt_argument.specs.Orders.{IsAllowed, IsEnabled, IsComplete, counts_of}
use Rattle.dt_events.specs.Jobs.{op_at, state_of, listing_of, run_of, at_of}
use Rattle.dt_events.specs.LiveWords.{live_of}
use Rattle.dt_events.specs.State.{Cell}
use Rattle.dt_events.specs.Units.{can_do}
use Rattle.dt_tensor.specs.Packed.{Packed}
use Rattle.dt_job.specs.Jobs.{IsJob}
use Rattle.dt_job.specs.Read.{StatedJob, job_of}
use Rattle.dt_run.specs.Outcome.{given_of}
use Rattle.dt_run.specs.Planning.{job_layout, limit_of}
use Rattle.dt_run.specs.Running.{AreWorkless}

-- each number of these tensors is below 2 ^ 64
abbrev pub AreWords : List Packed → Type 0
AreWords tensors = AllByRecursion (λ (t : Packed). AllByRecursion (λ v. v < 2 ^ 64) t.values) tensors

-- A job of these statements that is run: its machine and its schedules are lawful, it has no workspaces, its numbers are of 64 bits, and its plan passes no
-- limit.
pub record IsAccepted (s : StatedJob) : Type 0 where
  pub job : IsJob s.stmts s.job
  pub machine : IsMachine s.job.machine
  pub lawful : AllByRecursion (λ (p : Part). IsLawful p.sched) s.job.parts
  pub workless : AreWorkless s.job.parts
  pub words : AreWords s.job.tensors
  pub limit : limit_of (job_layout s.job) ≡ None

-- the numbers of a job's tensors as they are given, and after all statements
abbrev pub given_numbers : StatedJob → Entries
given_numbers s = entries_of (given_of s.job)

abbrev pub final_numbers : StatedJob → Entries
final_numbers s = entries_of (final_of s.stmts (given_of s.job))

-- the operations of a job with its events, where the homes have the given numbers at the opening
abbrev pub job_listing : StatedJob → Listing Cell
job_listing s = listing_of (job_layout s.job) (given_numbers s)

-- After any units that the events allow: each was defined, and so is each next one, so that each word that a task reads is held there; no node holds more
-- than its bound in the plan. Where all units are done, every home has the numbers after all statements, on every node, and nothing else is held.
pub record OrdersAgree (s : StatedJob) (u : List ℕ) : Type 0 where
  pub defined : run_of (job_layout s.job) (given_numbers s) u ≡ Some (at_of (job_layout s.job) (given_numbers s) (counts_of u))
  pub turns : (b : ℕ) → IsEnabled (job_listing s) (counts_of u) b → can_do (job_layout s.job) (op_at (ops_of (job_layout s.job)) b) (suc (counts_of u b)) (at_of (job_layout s.job) (given_numbers s) (counts_of u)) ≡ true
  pub bounded : (n : ℕ) → live_of (job_layout s.job) n (at_of (job_layout s.job) (given_numbers s) (counts_of u)) ≤ bound_of (job_layout s.job) n
  pub ends : IsComplete (job_listing s) (counts_of u) → run_of (job_layout s.job) (given_numbers s) u ≡ Some (state_of (job_layout s.job) (final_numbers s))

-- So it is for every job that is run and every list of units that its events allow.
abbrev pub AllOrdersAgree : Type 0
AllOrdersAgree = (s : StatedJob) → IsAccepted s → (u : List ℕ) → IsAllowed (job_listing s) u → OrdersAgree s u

-- So it is for the job that these bytes state, if its plan passes no limit.
abbrev pub HaveOrders : List ℕ → Type 0
HaveOrders bytes = (s : StatedJob) → job_of bytes ≡ Ok s → limit_of (job_layout s.job) ≡ None → (u : List ℕ) → IsAllowed (job_listing s) u → OrdersAgree s u
