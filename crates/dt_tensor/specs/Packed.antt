-- A packed tensor: its stored coordinates, and one number for each.
use Rattle.std.specs.Prelude.{◌≡◌, ◌<◌, ◌≤◌, ℕ, zero, suc, ◌+◌, ◌*◌, List, [], ◌∷◌, Bool, length, take, drop, map, replicate, option_map, unwrap_or, slice_index, slice_index_or, false, if◌then◌else◌}
use Rattle.std.specs.List.{All, flat_map}
use Rattle.std.specs.List.Sorted.{IsStrictlyIncreasing}
use Rattle.dt_base.specs.Ranges.{below, assignments}
use Rattle.dt_base.specs.Rows.{product}
use Rattle.dt_level.specs.Levels.{children_of}
use Rattle.dt_model.specs.Positions.{StoredTensor, IsStored, place_in}
use Rattle.dt_model.specs.WholeTensor.{WholeTensor}

-- extents, which levels are compressed, the stored coordinates in order, and their numbers
pub record Packed : Type 0 where
  pub extents : List ℕ
  pub compressed : List Bool
  pub coords : List (List ℕ)
  pub values : List ℕ

-- what a tensor with dense levels alone stores: each index of its extents
abbrev pub dense_levels : List ℕ → StoredTensor
dense_levels ns = record { extents = ns; compressed = replicate (length ns) false; coords = assignments ns }

-- the index with this row-major number
abbrev pub index_at : List ℕ → ℕ → List ℕ
index_at ns n = slice_index_or (assignments ns) n []

-- the same behind one more level in front
abbrev pub deeper : Bool → ℕ → ℕ
deeper b zero = if b then 1 else 0
deeper b (suc d) = suc (suc d)

-- how many levels there are up to the last compressed one
abbrev pub depth_of : List Bool → ℕ
depth_of [] = 0
depth_of (b ∷ rest) = deeper b (depth_of rest)

-- the row-major numbers of the indices behind these fronts, so many behind each
abbrev pub numbers_behind : ℕ → List ℕ → List ℕ
numbers_behind size fronts = flat_map (λ f. map (λ r. f * size + r) (below size)) fronts

-- what a tensor stores whose stored fronts up to the last compressed level have these row-major numbers
abbrev pub levels_with : List ℕ → List Bool → List ℕ → StoredTensor
levels_with ns compressed fronts = record { extents = ns; compressed = compressed; coords = map (index_at ns) (numbers_behind (product (drop (depth_of compressed) ns)) fronts) }

-- the parts of such levels: how deep the last compressed one lies, how many indices are behind each front, and the stored fronts as the children of one parent
pub record IsCut (ns : List ℕ) (compressed : List Bool) (d s : ℕ) (level : List (List ℕ)) : Type 0 where
  pub depth : d ≡ depth_of compressed
  pub size : s ≡ product (drop d ns)
  pub root : length level ≡ 1
  pub ascending : IsStrictlyIncreasing (children_of level 0)
  pub within : All (λ f. f < product (take d ns)) (children_of level 0)
  pub stored : IsStored (levels_with ns compressed (children_of level 0))
  pub few : length (levels_with ns compressed (children_of level 0)).coords ≤ 1048576

-- where the words of a tensor lie
abbrev pub stored_of : Packed → StoredTensor
stored_of t = record { extents = t.extents; compressed = t.compressed; coords = t.coords }

-- a tensor stores what its levels ask for, at most 2 ^ 20 coordinates, with one number each
pub record IsPacked (t : Packed) : Type 0 where
  pub stored : IsStored (stored_of t)
  pub few : length t.coords ≤ 1048576
  pub full : length t.values ≡ length t.coords

-- the number at these coordinates, and 0 where they are not stored
abbrev pub number_in : Packed → List ℕ → ℕ
number_in t c = unwrap_or (option_map (slice_index t.values) (place_in (stored_of t) c)) 0

-- the whole tensor: a number for each index
abbrev pub whole_of : Packed → WholeTensor
whole_of t = record { extents = t.extents; values = map (number_in t) (assignments t.extents) }

-- the tensor with these levels and a number for each of their positions
abbrev pub packed_with : StoredTensor → List ℕ → Packed
packed_with t values = record { extents = t.extents; compressed = t.compressed; coords = t.coords; values = values }

-- the tensor whose levels are dense, with these numbers in row-major order
abbrev pub dense_tensor : List ℕ → List ℕ → Packed
dense_tensor ns values = record { extents = ns; compressed = replicate (length ns) false; coords = assignments ns; values = values }
