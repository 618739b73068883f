-- Levels of numbers, each with the sums of the pairs of the one below.
use Rattle.std.specs.Prelude.{◌≡◌, ℕ, zero, suc, ◌+◌, ◌-◌, ◌/◌, ◌<◌, ◌≤◌, ◌^◌, List, [], ◌∷◌, length, slice_index, slice_set}

-- each pair of neighbours added; a last one without a neighbour stays
abbrev pub halved : List ℕ → List ℕ
halved [] = []
halved (x ∷ []) = x ∷ []
halved (x ∷ y ∷ xs) = (x + y) ∷ halved xs

-- the same so many times
abbrev pub halved_times : ℕ → List ℕ → List ℕ
halved_times zero xs = xs
halved_times (suc l) xs = halved_times l (halved xs)

-- the lowest level
abbrev pub lowest : List (List ℕ) → List ℕ
lowest [] = []
lowest (xs ∷ levels) = xs

-- each level has the sums of the pairs of the one below it, and these numbers are below the lowest
abbrev pub AreHalves : List ℕ → List (List ℕ) → Type 0
AreHalves xs [] = Unit {0}
AreHalves xs (ys ∷ levels) = (ys ≡ xs) × AreHalves (halved xs) levels

-- the levels go on up to one number
pub record IsTree (levels : List (List ℕ)) : Type 0 where
  pub halves : AreHalves (lowest levels) levels
  pub single : length (halved_times (length levels) (lowest levels)) ≤ 1
  pub small : length (lowest levels) < 2 ^ 32

-- a number with another part in place of one
abbrev pub replaced_in : List ℕ → ℕ → ℕ → ℕ → List ℕ
replaced_in xs i old new = slice_set xs i (slice_index xs i - old + new)

-- the same of the number above it on each level
abbrev pub replaced : List (List ℕ) → ℕ → ℕ → ℕ → List (List ℕ)
replaced [] i old new = []
replaced (xs ∷ levels) i old new = replaced_in xs i old new ∷ replaced levels (i / 2) old new

-- on each level there is such a number with that part, and the new one fits
abbrev pub CanReplace : List (List ℕ) → ℕ → ℕ → ℕ → Type 0
CanReplace [] i old new = Unit {0}
CanReplace (xs ∷ levels) i old new = (i < length xs) × (old ≤ slice_index xs i) × (slice_index xs i - old + new < 2 ^ 32) × CanReplace levels (i / 2) old new
