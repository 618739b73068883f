-- A line with a command.
use Rattle.std.specs.Prelude.{ℕ, List, option_map, Result, Ok}
use Rattle.dt_text.specs.Tokens.{tokens_of}
use Rattle.dt_model.specs.declared.cause.Cause.{Cause}
use Rattle.dt_model.specs.declared.cause.Cause.TheVariants as cause
use Rattle.dt_model.specs.Steps.{◌>>=◌, found}
use Rattle.dt_place.specs.Machines.{dims_of}
use Rattle.dt_schedule.specs.Commands.{command_line}
use Rattle.dt_job.specs.declared.phases.Phase.TheVariants as phase
use Rattle.dt_job.specs.Contents.{stored_of_all}
use Rattle.dt_job.specs.Drafts.{DraftView}
use Rattle.dt_job.specs.Phases.{open_stmt}

-- a command line: the open statement gets another schedule
unfoldable pub schedule_line : DraftView → List ℕ → Result DraftView Cause
schedule_line d text = do
  s ← found (open_stmt d.phase) cause.OutOfPlace
  grid ← found (option_map dims_of d.machine) cause.OutOfPlace
  sched ← command_line s.sched grid (stored_of_all d.tensors) (tokens_of text)
  Ok (record d { phase = phase.Open (record s { sched = sched }) })
