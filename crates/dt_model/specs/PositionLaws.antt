-- Positions and stored coordinates lead to each other, and ascend together.
use Rattle.std.specs.Prelude.{◌≡◌, ◌<◌, ◌↔◌, ℕ, List, [], ◌∷◌, length, Some, Bool, true, false, ◌||◌, ◌&&◌, nat_eq, nat_lt, IsTrue}
use Rattle.dt_model.specs.Positions.{StoredTensor, IsStored, place_in, coords_at}

-- whether a list of numbers comes before another in lexicographic order
abbrev pub is_before : List ℕ → List ℕ → Bool
is_before xs [] = false
is_before [] (y ∷ ys) = true
is_before (x ∷ xs) (y ∷ ys) = nat_lt x y || (nat_eq x y && is_before xs ys)

-- the coordinates at a position have that position, coordinates that have a position stand there, and positions ascend as their coordinates do
pub record HasOrderedPositions (t : StoredTensor) : Type 0 where
  pub placed : (k : ℕ) → k < length t.coords → place_in t (coords_at t k) ≡ Some k
  pub found : (c : List ℕ) (k : ℕ) → place_in t c ≡ Some k → (coords_at t k ≡ c) × (k < length t.coords)
  pub ordered : (j k : ℕ) → j < length t.coords → k < length t.coords → IsTrue (is_before (coords_at t j) (coords_at t k)) ↔ (j < k)

-- so it is with each tensor that stores what its levels ask for
abbrev pub PositionsFollowCoordinates : Type 0
PositionsFollowCoordinates = (t : StoredTensor) → IsStored t → HasOrderedPositions t
