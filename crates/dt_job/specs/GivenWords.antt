-- The words behind `data` and `fill`.
use Rattle.std.specs.Prelude.{ℕ, List, [], ◌∷◌, Result, Ok, Err}
use Rattle.dt_text.specs.Names.{is_name}
use Rattle.dt_model.specs.declared.cause.Cause.{Cause}
use Rattle.dt_model.specs.declared.cause.Cause.TheVariants as cause
use Rattle.dt_model.specs.Steps.{◌>>=◌, need}
use Rattle.dt_job.specs.declared.phases.Phase.{Phase}
use Rattle.dt_job.specs.Phases.{takes_declaration}

-- the name that begins the words, and the words behind it
unfoldable pub given_words : Phase → List (List ℕ) → Result (List ℕ × List (List ℕ)) Cause
given_words phase [] = do
  _ ← need (takes_declaration phase) cause.OutOfPlace
  Err cause.Syntax
given_words phase (name ∷ words) = do
  _ ← need (takes_declaration phase) cause.OutOfPlace
  _ ← need (is_name name) cause.Syntax
  Ok (name, words)
