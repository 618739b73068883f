-- A line `place`.
use Rattle.std.specs.Prelude.{ℕ, List, not, Result, Ok}
use Rattle.dt_text.specs.Tokens.{tokens_of}
use Rattle.dt_model.specs.declared.cause.Cause.{Cause}
use Rattle.dt_model.specs.declared.cause.Cause.TheVariants as cause
use Rattle.dt_model.specs.Steps.{◌>>=◌, need, found}
use Rattle.dt_index.specs.Known.{place_of}
use Rattle.dt_place.specs.PlaceLine.{form_of, placed_of}
use Rattle.dt_job.specs.Contents.{Contents, is_placed, known_of, order_of, with_placement}
use Rattle.dt_job.specs.Drafts.{DraftView}
use Rattle.dt_job.specs.Phases.{takes_declaration}

-- the number of the tensor with this name, which no line has placed yet
unfoldable pub unplaced_number : Contents → List ℕ → Result ℕ Cause
unplaced_number tensors name = do
  k ← found (place_of name (known_of tensors)) (cause.UnknownTensor name)
  _ ← need (not (is_placed tensors k)) (cause.Twice name)
  Ok k

-- `place NAME LETTERS -> LEVEL`, by what stands behind the first word
unfoldable pub place_line : DraftView → List ℕ → Result DraftView Cause
place_line d text = do
  _ ← need (takes_declaration d.phase) cause.OutOfPlace
  m ← found d.machine cause.OutOfPlace
  f ← form_of (tokens_of text)
  k ← unplaced_number d.tensors f.name
  p ← placed_of f (order_of d.tensors k) m.levels
  Ok (record d { tensors = with_placement d.tensors k p })
