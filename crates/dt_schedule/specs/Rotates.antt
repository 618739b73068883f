-- `rotate`: a loop that begins elsewhere at each value of loops around it.
use Rattle.std.specs.Prelude.{ℕ, ◌-◌, List, [], ◌∷◌, length, nat_le, take, slice_index_or, Result, Ok, Err}
use Rattle.dt_model.specs.declared.cause.Cause.{Cause}
use Rattle.dt_model.specs.declared.cause.Cause.TheVariants as cause
use Rattle.dt_model.specs.Steps.{◌>>=◌, need}
use Rattle.dt_nest.specs.Schedule.{Schedule}
use Rattle.dt_schedule.specs.NamesOf.{names_of, loop_of, loops_of}
use Rattle.dt_schedule.specs.declared.commands.Command.{Command}
use Rattle.dt_schedule.specs.declared.commands.Command.TheVariants as command

-- all but the last
abbrev pub all_but_last : List (List ℕ) → List (List ℕ)
all_but_last words = take (length words - 1) words

-- the last, of one or more
abbrev pub last_of : List (List ℕ) → List ℕ
last_of words = slice_index_or words (length words - 1) []

-- the first of these names is a loop, which the others but the last rotate; the last is the new loop
unfoldable pub rotate_names : Schedule → List (List ℕ) → Result Command Cause
rotate_names s [] = Err cause.Syntax
rotate_names s (t ∷ names) = do
  _ ← need (nat_le 2 (length names)) cause.Syntax
  var ← loop_of s t
  by ← loops_of s (all_but_last names)
  Ok (command.Rotate (record { var = var; by = by; fresh = last_of names }))

-- `rotate t` with one or more loops, then the new loop
unfoldable pub rotate_of : Schedule → List (List ℕ) → Result Command Cause
rotate_of s words = do
  names ← names_of words
  rotate_names s names
