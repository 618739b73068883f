-- A line `print`.
use Rattle.std.specs.Prelude.{ℕ, List, [], ◌∷◌, ◌++◌, Result, Ok, Err}
use Rattle.dt_text.specs.Names.{is_name}
use Rattle.dt_model.specs.declared.cause.Cause.{Cause}
use Rattle.dt_model.specs.declared.cause.Cause.TheVariants as cause
use Rattle.dt_model.specs.Steps.{◌>>=◌, need, found}
use Rattle.dt_index.specs.Known.{place_of}
use Rattle.dt_job.specs.declared.outputs.Show.TheVariants.{Print}
use Rattle.dt_job.specs.declared.phases.Phase.TheVariants as phase
use Rattle.dt_job.specs.Contents.{known_of}
use Rattle.dt_job.specs.Drafts.{DraftView}
use Rattle.dt_job.specs.Phases.{takes_output}

-- `print NAME`
unfoldable pub print_line : DraftView → List (List ℕ) → Result DraftView Cause
print_line d (name ∷ []) = do
  _ ← need (takes_output d.phase) cause.OutOfPlace
  _ ← need (is_name name) cause.Syntax
  k ← found (place_of name (known_of d.tensors)) (cause.UnknownTensor name)
  Ok (record d { shows = d.shows ++ Print k ∷ []; phase = phase.Outputs })
print_line d _ = do
  _ ← need (takes_output d.phase) cause.OutOfPlace
  Err cause.Syntax
