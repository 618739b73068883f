-- A line `tensor`.
use Rattle.std.specs.Prelude.{ℕ, List, [], ◌∷◌, ◌++◌, Bool, false, length, replicate, not, ◌&&◌, ◌==◌, nat_lt, None, is_some, Result, Ok, Err}
use Rattle.std.specs.List.{list_all}
use Rattle.dt_text.specs.Names.{is_name}
use Rattle.dt_text.specs.Numbers.{all_numbers_of, is_numeral}
use Rattle.dt_model.specs.declared.cause.Cause.{Cause}
use Rattle.dt_model.specs.declared.cause.Cause.TheVariants as cause
use Rattle.dt_model.specs.Shape.{dims, shape_of_extents}
use Rattle.dt_model.specs.Steps.{◌>>=◌, need, found}
use Rattle.dt_index.specs.Known.{place_of}
use Rattle.dt_tensor.specs.Packed.{Packed}
use Rattle.dt_tensor.specs.Packing.{pack_of}
use Rattle.dt_tensor.specs.declared.packing.PackEnd.{PackEnd}
use Rattle.dt_job.specs.Contents.{known_of}
use Rattle.dt_job.specs.Drafts.{DraftView}
use Rattle.dt_job.specs.Phases.{takes_declaration}
use Rattle.dt_job.specs.Shapes.{extent_words, is_dense_letter, level_words}
use Rattle.dt_job.specs.Stops.{cause_of_pack}

-- a tensor that is packed, or the cause for which it is not
abbrev pub packed_or_cause : Result Packed PackEnd → Result Packed Cause
packed_or_cause (Ok t) = Ok t
packed_or_cause (Err end) = Err (cause_of_pack end)

-- the tensor with these extents and levels while no line gives it numbers: 0 at each position
abbrev pub zeros_of : List ℕ → List Bool → Result Packed Cause
zeros_of ns compressed = packed_or_cause (pack_of ns compressed [])

-- a tensor with this name, these extents, and this many level letters
unfoldable pub declared_in : DraftView → List ℕ → List ℕ → ℕ → Result DraftView Cause
declared_in d name extents letters = do
  _ ← need (not (is_some (place_of name (known_of d.tensors)))) (cause.NameTaken name)
  _ ← need (nat_lt (length d.tensors) 32) cause.TooManyTensors
  s ← found (shape_of_extents extents) cause.BadShape
  _ ← need (letters == length extents) cause.BadFormat
  t ← zeros_of (dims s) (replicate (length (dims s)) false)
  Ok (record d { tensors = d.tensors ++ (name, record { packed = t; given = false; placement = None }) ∷ [] })

-- `tensor NAME SHAPE` or `tensor NAME SHAPE FORMAT`, with dense levels
unfoldable pub tensor_line : DraftView → List (List ℕ) → Result DraftView Cause
tensor_line d (name ∷ shape ∷ []) = do
  _ ← need (takes_declaration d.phase) cause.OutOfPlace
  _ ← need (is_name name && list_all is_numeral (extent_words shape)) cause.Syntax
  extents ← found (all_numbers_of (extent_words shape)) cause.BadNumber
  declared_in d name extents (length extents)
tensor_line d (name ∷ shape ∷ format ∷ []) = do
  _ ← need (takes_declaration d.phase) cause.OutOfPlace
  _ ← need (is_name name && list_all is_numeral (extent_words shape) && list_all is_dense_letter (level_words format)) cause.Syntax
  extents ← found (all_numbers_of (extent_words shape)) cause.BadNumber
  declared_in d name extents (length (level_words format))
tensor_line d _ = do
  _ ← need (takes_declaration d.phase) cause.OutOfPlace
  Err cause.Syntax
