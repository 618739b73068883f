-- What is printed of a tensor.
use Rattle.std.specs.Prelude.{ℕ, ◌+◌, ◌-◌, ◌*◌, List, [], ◌∷◌, ◌++◌, codes, length, take, drop, map, slice_get, slice_range, unwrap_or, if◌then◌else◌}
use Rattle.std.specs.List.{flat_map, join_with_byte, zip}
use Rattle.std.specs.Fmt.{decimal}
use Rattle.dt_base.specs.Ranges.{assignments, below}
use Rattle.dt_model.specs.WholeTensor.{WholeTensor}
use Rattle.dt_tensor.specs.Packed.{Packed, dense_tensor, number_in}
use Rattle.dt_job.specs.Contents.{has_dense_levels}
use Rattle.dt_refusal.specs.Refusals.{line_end}

-- the extents in decimal, with an x between each two, and a word where there are none
abbrev pub shape_text : List ℕ → List ℕ
shape_text [] = codes "scalar"
shape_text (n ∷ ns) = join_with_byte 120 (map decimal (n ∷ ns))

-- the numbers in decimal, with a blank between each two, as a line
abbrev pub row_text : List ℕ → List ℕ
row_text values = join_with_byte 32 (map decimal values) ++ line_end

-- the extents of all coordinates but the last
abbrev pub front_extents : List ℕ → List ℕ
front_extents ns = take (length ns - 1) ns

-- the extent of the last coordinate, where there is one
abbrev pub last_extents : List ℕ → List ℕ
last_extents ns = drop (length ns - 1) ns

-- the numbers at these coordinates with each last one behind them
abbrev pub row_at : Packed → List ℕ → List ℕ
row_at t c = map (λ k. number_in t (c ++ k)) (assignments (last_extents t.extents))

-- a line for each assignment of all coordinates but the last
abbrev pub rows_text : Packed → List ℕ
rows_text t = flat_map (λ c. row_text (row_at t c)) (assignments (front_extents t.extents))

-- the coordinates of a position in decimal, with a comma between each two, and its number, as a line
abbrev pub position_text : List ℕ × ℕ → List ℕ
position_text p = join_with_byte 44 (map decimal p.0) ++ codes "=" ++ decimal p.1 ++ line_end

-- a line for each position
abbrev pub positions_text : Packed → List ℕ
positions_text t = flat_map position_text (zip t.coords t.values)

-- a line with the name and the shape, and the rows where no level is compressed, else the positions
abbrev pub tensor_text : List ℕ → Packed → List ℕ
tensor_text name t = codes "tensor " ++ name ++ codes " " ++ shape_text t.extents ++ line_end ++ (if has_dense_levels t then rows_text t else positions_text t)

-- a whole tensor as it is stored with dense levels
abbrev pub dense_of : WholeTensor → Packed
dense_of w = dense_tensor w.extents w.values

-- how many numbers stand in a row: the last extent, and 1 for a scalar
abbrev pub row_length : List ℕ → ℕ
row_length ns = unwrap_or (slice_get ns (length ns - 1)) 1

-- the numbers cut into these many pieces of n, a line each
abbrev pub cut_text : ℕ → ℕ → List ℕ → List ℕ
cut_text rows n values = flat_map (λ r. row_text (slice_range values (r * n) (r * n + n))) (below rows)
