-- The blocks of an extent.
use Rattle.std.specs.Prelude.{ℕ, ◌+◌, ◌*◌, ◌<◌, ◌≤◌, min}
use Rattle.std.specs.Int.{div_ceil}

-- the size of a block where n numbers are cut into p pieces, rounded up
abbrev pub block_size : ℕ → ℕ → ℕ
block_size n p = div_ceil n p

-- the piece q: the numbers from the first up to, not including, the second
abbrev pub block_of : ℕ → ℕ → ℕ → ℕ × ℕ
block_of n p q = (min n (q * block_size n p), min n ((q + 1) * block_size n p))

-- whether a number is in a piece
abbrev pub IsIn : ℕ → ℕ × ℕ → Type 0
IsIn x piece = (piece.0 ≤ x) × (x < piece.1)

-- The p blocks of n numbers: each number is in one of them, and those of an earlier block come before those of a later.
pub record AreBlocks (n p : ℕ) : Type 0 where
  pub covers : (x : ℕ) → x < n → (q : ℕ) × (q < p) × IsIn x (block_of n p q)
  pub within : (q x : ℕ) → IsIn x (block_of n p q) → x < n
  pub ascends : (q r x y : ℕ) → q < r → IsIn x (block_of n p q) → IsIn y (block_of n p r) → x < y

-- so it is for each extent and each count of pieces that is not 0
abbrev pub BlocksCover : Type 0
BlocksCover = (n p : ℕ) → 0 < p → AreBlocks n p
