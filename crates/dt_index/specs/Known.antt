-- The tensors that a statement may name.
use Rattle.std.specs.Prelude.{ℕ, List, [], Bool, true, Option, position, option_map, unwrap_or, slice_get, map}
use Rattle.std.specs.Str.{bytes_eq}

-- a tensor by its name, its extents, and whether all its levels are dense
pub record Known : Type 0 where
  pub name : List ℕ
  pub extents : List ℕ
  pub dense : Bool

-- the number of the tensor with this name
abbrev pub place_of : List ℕ → List Known → Option ℕ
place_of name tensors = position (λ t. bytes_eq t.name name) tensors

-- the extents of the tensor with this number
abbrev pub known_extents : List Known → ℕ → List ℕ
known_extents tensors k = unwrap_or (option_map (λ t. t.extents) (slice_get tensors k)) []

-- whether the tensor with this number is dense
abbrev pub is_dense_at : List Known → ℕ → Bool
is_dense_at tensors k = unwrap_or (option_map (λ t. t.dense) (slice_get tensors k)) true

-- the extents of each tensor
abbrev pub shapes_of_known : List Known → List (List ℕ)
shapes_of_known tensors = map (λ t. t.extents) tensors
