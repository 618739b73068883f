-- Command lines: what each asks for, or the first cause against its words.
use Rattle.std.specs.Prelude.{ℕ, List, [], ◌∷◌, Result, Ok, Err}
use Rattle.dt_model.specs.declared.cause.Cause.{Cause}
use Rattle.dt_model.specs.declared.cause.Cause.TheVariants as cause
use Rattle.dt_model.specs.Positions.{StoredTensor}
use Rattle.dt_model.specs.Steps.{◌>>=◌, found}
use Rattle.dt_nest.specs.Schedule.{Schedule}
use Rattle.dt_schedule.specs.declared.command_words.CommandWord.{CommandWord}
use Rattle.dt_schedule.specs.declared.command_words.CommandWord.TheVariants as kind
use Rattle.dt_schedule.specs.declared.commands.Command.{Command}
use Rattle.dt_schedule.specs.CommandWords.{word_of}
use Rattle.dt_schedule.specs.Splits.{split_of}
use Rattle.dt_schedule.specs.Divides.{divide_of}
use Rattle.dt_schedule.specs.Reorders.{reorder_of}
use Rattle.dt_schedule.specs.Collapses.{collapse_of}
use Rattle.dt_schedule.specs.Rotates.{rotate_of}
use Rattle.dt_schedule.specs.Distributes.{distribute_of}
use Rattle.dt_schedule.specs.Communicates.{communicate_of}

-- the command of a kind, by the machine's dimensions, what the tensors store, and the words behind its own
unfoldable pub form_of : Schedule → List ℕ → List StoredTensor → CommandWord → List (List ℕ) → Result Command Cause
form_of s grid stored kind.Split words = split_of s words
form_of s grid stored kind.Divide words = divide_of s words
form_of s grid stored kind.Reorder words = reorder_of s words
form_of s grid stored kind.Collapse words = collapse_of s words
form_of s grid stored kind.Rotate words = rotate_of s words
form_of s grid stored kind.Distribute words = distribute_of s grid words
form_of s grid stored kind.Communicate words = communicate_of s words

-- the command of a line, by the machine's dimensions, what the tensors store, and the line's words
unfoldable pub command_of : Schedule → List ℕ → List StoredTensor → List (List ℕ) → Result Command Cause
command_of s grid stored [] = Err cause.UnknownWord
command_of s grid stored (word ∷ words) = do
  c ← found (word_of word) cause.UnknownWord
  form_of s grid stored c words
