-- The job that a text is: its lines from first to last.
use Rattle.std.specs.Prelude.{◌≡◌, ℕ, ◌+◌, List, [], ◌∷◌, map, if◌then◌else◌, Option, None, option_map, Result, Ok, Err}
use Rattle.dt_text.specs.Lines.{lines_of}
use Rattle.dt_model.specs.declared.cause.Cause.{Cause}
use Rattle.dt_model.specs.declared.cause.Cause.TheVariants as cause
use Rattle.dt_model.specs.Steps.{found}
use Rattle.dt_model.specs.declared.stmt.Stmt.{Stmt}
use Rattle.dt_place.specs.Machines.{MachineView}
use Rattle.dt_job.specs.declared.job.Job.{Job}
use Rattle.dt_job.specs.declared.line_stop.LineStop.{LineStop}
use Rattle.dt_job.specs.declared.line_stop.LineStop.TheVariants as stops
use Rattle.dt_job.specs.declared.reading.JobEnd.{JobEnd}
use Rattle.dt_job.specs.declared.reading.JobEnd.TheVariants as ends
use Rattle.dt_job.specs.Contents.{names_of, places_of, tensors_of}
use Rattle.dt_job.specs.Drafts.{DraftView, empty_draft, part_of}
use Rattle.dt_job.specs.Jobs.{IsJob}
use Rattle.dt_job.specs.Lines.{bytes_line}
use Rattle.dt_job.specs.Phases.{is_whole}

-- the n-th line's answer
abbrev pub numbered : {A : Type 0} → ℕ → Result A Cause → Result A (ℕ × Cause)
numbered n (Ok x) = Ok x
numbered n (Err e) = Err (n, e)

-- the lines behind one that has no cause
abbrev pub then_lines : {A B : Type 0} → Result A (ℕ × Cause) → (A → Result B (ℕ × Cause)) → Result B (ℕ × Cause)
then_lines (Ok x) f = f x
then_lines (Err e) f = Err e

-- a job, and the statements that its parts are of, in order
pub record StatedJob : Type 0 where
  pub job : Job
  pub stmts : List Stmt

-- the job of a draft on this machine
abbrev pub job_on : DraftView → MachineView → Job
job_on d m = record {
  machine = m;
  names = names_of d.tensors;
  tensors = tensors_of d.tensors;
  places = places_of d.tensors;
  heads = map (λ s. s.head) d.closed;
  parts = map part_of d.closed;
  shows = d.shows;
}

-- the statements of a draft that are closed
abbrev pub stmts_of : DraftView → List Stmt
stmts_of d = map (λ s. s.stmt) d.closed

-- the job of a draft, where its machine is known and no statement is open
abbrev pub whole_job : DraftView → Option StatedJob
whole_job d = if is_whole d.phase then option_map (λ m. record { job = job_on d m; stmts = stmts_of d }) d.machine else None

-- the lines from the n-th on: the job, or the first line with a cause
unfoldable pub lines_from : ℕ → DraftView → List (List ℕ) → Result StatedJob (ℕ × Cause)
lines_from n d [] = numbered n (found (whole_job d) cause.Unfinished)
lines_from n d (bytes ∷ rest) = then_lines (numbered n (bytes_line d bytes)) (λ e. lines_from (n + 1) e rest)

-- the job of a text, or its first line that has a cause, with its first cause
abbrev pub job_of : List ℕ → Result StatedJob (ℕ × Cause)
job_of text = lines_from 1 empty_draft (lines_of text)

-- this job was read: with some statements it is the one that is given, and lawful, so that each part is its statement's
abbrev pub IsReadJob : Job → Result StatedJob (ℕ × Cause) → Type 0
IsReadJob j r = (stmts : List Stmt) × (r ≡ Ok (record { job = j; stmts = stmts })) × IsJob stmts j

-- what a call returned is what the text says, unless memory ran out
abbrev pub IsRead : Result Job JobEnd → Result StatedJob (ℕ × Cause) → Type 0
IsRead (Ok j) r = IsReadJob j r
IsRead (Err (ends.Refused n c)) r = r ≡ Err (n, c)
IsRead (Err ends.NoMemory) r = Unit {0}

-- the end of a job at the line where the reading stops so
abbrev pub at_line : ℕ → LineStop → JobEnd
at_line n (stops.Refused c) = ends.Refused n c
at_line n stops.NoMemory = ends.NoMemory
