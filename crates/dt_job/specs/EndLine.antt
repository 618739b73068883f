-- The line `end`.
use Rattle.std.specs.Prelude.{ℕ, List, [], ◌∷◌, ◌++◌, Result, Ok, Err}
use Rattle.dt_model.specs.declared.cause.Cause.{Cause}
use Rattle.dt_model.specs.declared.cause.Cause.TheVariants as cause
use Rattle.dt_model.specs.Steps.{◌>>=◌, found}
use Rattle.dt_job.specs.declared.phases.Phase.TheVariants as phase
use Rattle.dt_job.specs.Drafts.{DraftView}
use Rattle.dt_job.specs.Phases.{open_stmt}

-- `end`
unfoldable pub end_line : DraftView → List (List ℕ) → Result DraftView Cause
end_line d [] = do
  s ← found (open_stmt d.phase) cause.OutOfPlace
  Ok (record d { closed = d.closed ++ s ∷ []; phase = phase.Statements })
end_line d _ = do
  _ ← found (open_stmt d.phase) cause.OutOfPlace
  Err cause.Syntax
