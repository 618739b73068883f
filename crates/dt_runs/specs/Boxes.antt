-- Boxes of coordinates, and the row-major numbers in them.
use Rattle.std.specs.Prelude.{ℕ, ◌≤◌, List, [], ◌∷◌, map, Bool, nat_le}
use Rattle.std.specs.List.{flat_map, filter_map, list_any, zip}
use Rattle.dt_base.specs.Rows.{row_major}
use Rattle.dt_runs.specs.Intervals.{range}

-- each list with one number of each side, from the low one up to, not including, the high one, in lexicographic order
abbrev pub coords_between : List ℕ → List ℕ → List (List ℕ)
coords_between [] his = [] ∷ []
coords_between (lo ∷ los) [] = []
coords_between (lo ∷ los) (hi ∷ his) = flat_map (λ i. map (λ a. i ∷ a) (coords_between los his)) (range lo hi)

-- the row-major numbers of the coordinates between two corners, in the coordinates' order
abbrev pub box_numbers : List ℕ → List ℕ → List ℕ → List ℕ
box_numbers extents los his = filter_map (row_major extents) (coords_between los his)

-- two corners for these extents: as many numbers in each, each low one at most the high one, and that at most the extent
abbrev pub AreCorners : List ℕ → List ℕ → List ℕ → Type 0
AreCorners [] [] [] = Unit {0}
AreCorners (n ∷ ns) (lo ∷ los) (hi ∷ his) = (lo ≤ hi) × (hi ≤ n) × AreCorners ns los his
AreCorners ns los his = ⊥

-- whether a side has no number
abbrev pub has_empty_side : List ℕ → List ℕ → Bool
has_empty_side los his = list_any (λ side. nat_le side.1 side.0) (zip los his)
