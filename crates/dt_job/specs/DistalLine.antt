-- The line `distal`.
use Rattle.std.specs.Prelude.{ℕ, List, [], ◌∷◌, ◌==◌, Result, Ok, Err}
use Rattle.dt_model.specs.declared.cause.Cause.{Cause}
use Rattle.dt_model.specs.declared.cause.Cause.TheVariants as cause
use Rattle.dt_model.specs.Steps.{◌>>=◌, need}
use Rattle.dt_job.specs.declared.phases.Phase.TheVariants as phase
use Rattle.dt_job.specs.Drafts.{DraftView}
use Rattle.dt_job.specs.Phases.{takes_distal}
use Rattle.dt_job.specs.Shapes.{numeral_of}

-- `distal 1`
unfoldable pub distal_line : DraftView → List (List ℕ) → Result DraftView Cause
distal_line d (word ∷ []) = do
  _ ← need (takes_distal d.phase) cause.OutOfPlace
  n ← numeral_of word
  _ ← need (n == 1) cause.Version
  Ok (record d { phase = phase.Machine })
distal_line d _ = do
  _ ← need (takes_distal d.phase) cause.OutOfPlace
  Err cause.Syntax
