-- The line `machine`.
use Rattle.std.specs.Prelude.{ℕ, List, Some, Result, Ok}
use Rattle.dt_text.specs.Tokens.{tokens_of}
use Rattle.dt_model.specs.declared.cause.Cause.{Cause}
use Rattle.dt_model.specs.declared.cause.Cause.TheVariants as cause
use Rattle.dt_model.specs.Steps.{◌>>=◌, need}
use Rattle.dt_place.specs.MachineLine as machine_lines
use Rattle.dt_job.specs.declared.phases.Phase.TheVariants as phase
use Rattle.dt_job.specs.Drafts.{DraftView}
use Rattle.dt_job.specs.Phases.{takes_machine}

-- `machine DIMENSIONS`, by what stands behind the first word
unfoldable pub machine_line : DraftView → List ℕ → Result DraftView Cause
machine_line d text = do
  _ ← need (takes_machine d.phase) cause.OutOfPlace
  m ← machine_lines.machine_line (tokens_of text)
  Ok (record d { machine = Some m; phase = phase.Declarations })
