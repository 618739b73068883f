-- Stored coordinates of tensors, and their positions.
use Rattle.std.specs.Prelude.{◌≡◌, ℕ, ◌+◌, List, [], ◌∷◌, ◌++◌, length, take, filter, find, position, count_by, Option, IsSome, Bool, false, not, ◌||◌, ◌&&◌, nat_le, nat_lt, slice_index, slice_index_or}
use Rattle.std.specs.List.{list_all, list_any, zip}
use Rattle.std.specs.Str.{bytes_eq}
use Rattle.dt_base.specs.Ranges.{below, assignments}
use Rattle.dt_model.specs.Shape.{shape_of_extents}

-- a tensor by its extents, which of its levels are compressed, and its stored coordinates in order of position
pub record StoredTensor : Type 0 where
  pub extents : List ℕ
  pub compressed : List Bool
  pub coords : List (List ℕ)

-- whether these coordinates begin c
abbrev pub begins : List ℕ → List ℕ → Bool
begins front c = bytes_eq (take (length front) c) front

-- whether each front of c that ends at a compressed level begins some entry
abbrev pub is_followed : List Bool → List (List ℕ) → List ℕ → Bool
is_followed compressed entries c = list_all (λ q. not (slice_index_or compressed q false) || list_any (begins (take (q + 1) c)) entries) (below (length c))

-- the coordinates that are stored where these entries are given, in lexicographic order
abbrev pub stored_coords : List ℕ → List Bool → List (List ℕ) → List (List ℕ)
stored_coords extents compressed entries = filter (is_followed compressed entries) (assignments extents)

-- a tensor that stores what its levels ask for: the coordinates that are stored where the stored ones are given
pub record IsStored (t : StoredTensor) : Type 0 where
  pub shape : IsSome (shape_of_extents t.extents)
  pub levels : length t.compressed ≡ length t.extents
  pub stored : t.coords ≡ stored_coords t.extents t.compressed t.coords

-- coordinates of the first levels, each below its extent
abbrev pub is_front : List ℕ → List ℕ → Bool
is_front extents c = nat_le (length c) (length extents) && list_all (λ p. nat_lt p.0 p.1) (zip c extents)

-- whether c is a stored prefix; the empty one is
abbrev pub is_stored_prefix : StoredTensor → List ℕ → Bool
is_stored_prefix t c = is_front t.extents c && is_followed t.compressed t.coords c

-- the position of these coordinates, where they are stored
abbrev pub place_in : StoredTensor → List ℕ → Option ℕ
place_in t c = position (λ d. bytes_eq d c) t.coords

-- the coordinates at a position
abbrev pub coords_at : StoredTensor → ℕ → List ℕ
coords_at t k = slice_index_or t.coords k []

-- the least coordinate, from a number on, by which a prefix becomes a longer stored prefix
abbrev pub next_child_of : StoredTensor → List ℕ → ℕ → Option ℕ
next_child_of t front from = find (λ x. nat_le from x && is_stored_prefix t (front ++ x ∷ [])) (below (slice_index t.extents (length front)))

-- the words of memory that one position costs: one, and one for each compressed level
abbrev pub cost_of : StoredTensor → ℕ
cost_of t = 1 + count_by (λ b. b) t.compressed

-- the tensor with this number
abbrev pub tensor_at : List StoredTensor → ℕ → StoredTensor
tensor_at tensors k = slice_index_or tensors k (record { extents = []; compressed = []; coords = [] })
