-- `communicate`: at which loop tensors are communicated.
use Rattle.std.specs.Prelude.{ℕ, List, [], ◌∷◌, length, nat_le, Result, Ok, Err}
use Rattle.dt_model.specs.declared.cause.Cause.{Cause}
use Rattle.dt_model.specs.declared.cause.Cause.TheVariants as cause
use Rattle.dt_model.specs.Steps.{◌>>=◌, need}
use Rattle.dt_nest.specs.Schedule.{Schedule}
use Rattle.dt_schedule.specs.NamesOf.{names_of, loop_of, tensors_of}
use Rattle.dt_schedule.specs.declared.commands.Command.{Command}
use Rattle.dt_schedule.specs.declared.commands.Command.TheVariants as command

-- the first of these names is a loop, at which the others, which are tensors, are moved
unfoldable pub communicate_names : Schedule → List (List ℕ) → Result Command Cause
communicate_names s [] = Err cause.Syntax
communicate_names s (v ∷ names) = do
  _ ← need (nat_le 1 (length names)) cause.Syntax
  var ← loop_of s v
  tensors ← tensors_of s names
  Ok (command.Communicate (record { var = var; tensors = tensors }))

-- `communicate v` with one or more tensors
unfoldable pub communicate_of : Schedule → List (List ℕ) → Result Command Cause
communicate_of s words = do
  names ← names_of words
  communicate_names s names
