-- Whole tensors: a number for each index.
use Rattle.std.specs.Prelude.{◌≡◌, ℕ, List, Option, length, slice_get, slice_set, option_map, unwrap_or, replicate}
use Rattle.std.specs.Option.{option_and_then}
use Rattle.dt_base.specs.Rows.{product, row_major}

-- the extents of a tensor, and one number for each index in row-major order
pub record WholeTensor : Type 0 where
  pub extents : List ℕ
  pub values : List ℕ

-- the number at these coordinates
abbrev pub number_at : WholeTensor → List ℕ → Option ℕ
number_at t c = option_and_then (λ k. slice_get t.values k) (row_major t.extents c)

-- the tensor with another number at these coordinates
abbrev pub with_number : WholeTensor → List ℕ → ℕ → WholeTensor
with_number t c v = unwrap_or (option_map (λ k. record t { values = slice_set t.values k v }) (row_major t.extents c)) t

-- the tensor with 0 at each index
abbrev pub zero_tensor : List ℕ → WholeTensor
zero_tensor ns = record { extents = ns; values = replicate (product ns) 0 }

-- a tensor has as many numbers as indices
abbrev pub IsWhole : WholeTensor → Type 0
IsWhole t = length t.values ≡ product t.extents
