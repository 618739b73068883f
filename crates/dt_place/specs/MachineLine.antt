-- What a `machine` line says behind its first word.
use Rattle.std.specs.Prelude.{ℕ, List, [], ◌∷◌, Option, None, Result, Ok, Err}
use Rattle.std.specs.List.{list_all}
use Rattle.dt_text.specs.Numbers.{all_numbers_of, is_numeral}
use Rattle.dt_text.specs.Parts.{parts_at}
use Rattle.dt_model.specs.declared.cause.Cause.{Cause}
use Rattle.dt_model.specs.declared.cause.Cause.TheVariants as cause
use Rattle.dt_model.specs.Steps.{◌>>=◌, found, need}
use Rattle.dt_place.specs.Machines.{MachineView, are_levels}

-- the words of a level, which `x` joins
abbrev pub level_words : List ℕ → List (List ℕ)
level_words level = parts_at 120 level

-- the machine with these levels
unfoldable pub machine_with : List (List ℕ) → Option ℕ → Result MachineView Cause
machine_with levels memory = do
  _ ← need (are_levels levels) cause.BadDim
  Ok (record { levels = levels; memory = memory })

-- one level: numbers joined by `x`
unfoldable pub machine_line : List (List ℕ) → Result MachineView Cause
machine_line (level ∷ []) = do
  _ ← need (list_all is_numeral (level_words level)) cause.Syntax
  ns ← found (all_numbers_of (level_words level)) cause.BadNumber
  machine_with (ns ∷ []) None
machine_line _ = Err cause.Syntax
