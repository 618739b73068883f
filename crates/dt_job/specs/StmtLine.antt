-- A line `stmt`.
use Rattle.std.specs.Prelude.{ℕ, List, length, nat_lt, Result, Ok}
use Rattle.dt_model.specs.declared.cause.Cause.{Cause}
use Rattle.dt_model.specs.declared.cause.Cause.TheVariants as cause
use Rattle.dt_model.specs.Steps.{◌>>=◌, need}
use Rattle.dt_index.specs.Printed.{stmt_text}
use Rattle.dt_index.specs.Resolve.{Resolved, parsed_of}
use Rattle.dt_nest.specs.Chain.{stmt_schedule}
use Rattle.dt_job.specs.declared.phases.Phase.TheVariants as phase
use Rattle.dt_job.specs.Scheduled.{ScheduledView}
use Rattle.dt_job.specs.Contents.{known_of, names_of}
use Rattle.dt_job.specs.Drafts.{DraftView}
use Rattle.dt_job.specs.Phases.{takes_stmt}

-- a statement that is read, with its text and the schedule that it starts with
abbrev pub scheduled_of : Resolved → List (List ℕ) → ScheduledView
scheduled_of r tensors = record { stmt = r.stmt; head = stmt_text r.stmt r.variables tensors; sched = stmt_schedule r.stmt r.variables tensors }

-- `stmt TEXT`
unfoldable pub stmt_line : DraftView → List ℕ → Result DraftView Cause
stmt_line d text = do
  _ ← need (takes_stmt d.phase) cause.OutOfPlace
  r ← parsed_of (known_of d.tensors) text
  _ ← need (nat_lt (length d.closed) 32) cause.TooManyStatements
  Ok (record d { phase = phase.Open (scheduled_of r (names_of d.tensors)) })
