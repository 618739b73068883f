-- A line `fill`.
use Rattle.std.specs.Prelude.{ℕ, List, [], ◌∷◌, codes, Result, Ok, Err}
use Rattle.std.specs.Str.{bytes_eq}
use Rattle.dt_model.specs.declared.cause.Cause.{Cause}
use Rattle.dt_model.specs.declared.cause.Cause.TheVariants as cause
use Rattle.dt_model.specs.Steps.{◌>>=◌, need}
use Rattle.dt_job.specs.Contents.{position_count_of, with_values}
use Rattle.dt_job.specs.Drafts.{DraftView}
use Rattle.dt_job.specs.Fills.{fill_values}
use Rattle.dt_job.specs.declared.fills.Fill.{Fill}
use Rattle.dt_job.specs.declared.fills.Fill.TheVariants.{Ramp, Seed}
use Rattle.dt_job.specs.GivenWords.{given_words}
use Rattle.dt_job.specs.Shapes.{numeral_of}
use Rattle.dt_job.specs.DataLine.{ungiven_number}

-- `ramp` or `seed N`
unfoldable pub fill_of : List (List ℕ) → Result Fill Cause
fill_of (kind ∷ []) = do
  _ ← need (bytes_eq kind (codes "ramp")) cause.Syntax
  Ok Ramp
fill_of (kind ∷ seed ∷ []) = do
  _ ← need (bytes_eq kind (codes "seed")) cause.Syntax
  s ← numeral_of seed
  Ok (Seed s)
fill_of _ = Err cause.Syntax

-- what a fill gives for the tensor with this name
unfoldable pub filled_in : DraftView → List ℕ → Fill → Result DraftView Cause
filled_in d name fill = do
  k ← ungiven_number d.tensors name
  Ok (record d { tensors = with_values d.tensors k (fill_values fill (position_count_of d.tensors k)) })

-- `fill NAME ramp` or `fill NAME seed N`
unfoldable pub fill_line : DraftView → List (List ℕ) → Result DraftView Cause
fill_line d words = do
  g ← given_words d.phase words
  fill ← fill_of g.1
  filled_in d g.0 fill
