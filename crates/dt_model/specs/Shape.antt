-- Shapes of tensors.
use Rattle.std.specs.Prelude.{◌≡◌, ℕ, ◌-◌, List, ◌++◌, length, take, replicate, Option, Some, None, Bool, ◌&&◌, nat_le, if◌then◌else◌}
use Rattle.std.specs.List.{list_all}
use Rattle.dt_base.specs.Rows.{product}
use Rattle.dt_model.specs.declared.shape.Shape.{Shape}

-- the extents that are used
abbrev pub dims : Shape → List ℕ
dims s = take s.order s.extents

-- an extent of a tensor is from 1 to 4096
abbrev pub is_extent : ℕ → Bool
is_extent n = nat_le 1 n && nat_le n 4096

-- at most four extents, with at most 2 ^ 24 indices
abbrev pub are_extents : List ℕ → Bool
are_extents ns = nat_le (length ns) 4 && list_all is_extent ns && nat_le (product ns) 16777216

-- the shape with these extents, where they are some of a tensor
abbrev pub shape_of_extents : List ℕ → Option Shape
shape_of_extents ns = if are_extents ns then Some (record { order = length ns; extents = ns ++ replicate (4 - length ns) 1 }) else None

-- a shape whose extents are some of a tensor, and 1 where they are not used
abbrev pub IsShape : Shape → Type 0
IsShape s = shape_of_extents (dims s) ≡ Some s
