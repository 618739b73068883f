-- A line `data`.
use Rattle.std.specs.Prelude.{ℕ, List, length, not, ◌==◌, Result, Ok}
use Rattle.dt_text.specs.Numbers.{all_numbers_of}
use Rattle.dt_model.specs.declared.cause.Cause.{Cause}
use Rattle.dt_model.specs.declared.cause.Cause.TheVariants as cause
use Rattle.dt_model.specs.Steps.{◌>>=◌, need, found}
use Rattle.dt_index.specs.Known.{place_of}
use Rattle.dt_job.specs.Contents.{Contents, is_given, known_of, position_count_of, with_values}
use Rattle.dt_job.specs.Drafts.{DraftView}
use Rattle.dt_job.specs.GivenWords.{given_words}
use Rattle.dt_job.specs.Shapes.{are_numerals}

-- the number of the tensor with this name, which no line has given numbers yet
unfoldable pub ungiven_number : Contents → List ℕ → Result ℕ Cause
ungiven_number tensors name = do
  k ← found (place_of name (known_of tensors)) (cause.UnknownTensor name)
  _ ← need (not (is_given tensors k)) (cause.Twice name)
  Ok k

-- these numbers for the tensor with this name
unfoldable pub numbers_line : DraftView → List ℕ → List ℕ → Result DraftView Cause
numbers_line d name ns = do
  k ← ungiven_number d.tensors name
  _ ← need (length ns == position_count_of d.tensors k) cause.WrongCount
  Ok (record d { tensors = with_values d.tensors k ns })

-- `data NAME V V`: a tensor's numbers, in row-major order
unfoldable pub data_line : DraftView → List (List ℕ) → Result DraftView Cause
data_line d words = do
  g ← given_words d.phase words
  _ ← need (are_numerals g.1) cause.Syntax
  ns ← found (all_numbers_of g.1) cause.BadNumber
  numbers_line d g.0 ns
