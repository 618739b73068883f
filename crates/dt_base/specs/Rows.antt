-- Row-major numbers of indices.
use Rattle.std.specs.Prelude.{ℕ, ◌+◌, ◌*◌, List, [], ◌∷◌, Option, Some, None, nat_lt, if◌then◌else◌, option_map}

-- the product of a list
abbrev pub product : List ℕ → ℕ
product [] = 1
product (n ∷ ns) = n * product ns

-- the row-major number of these coordinates, and none where their count differs or one is out of range
abbrev pub row_major : List ℕ → List ℕ → Option ℕ
row_major [] [] = Some 0
row_major [] (x ∷ xs) = None
row_major (n ∷ ns) [] = None
row_major (n ∷ ns) (x ∷ xs) = if nat_lt x n then option_map (λ k. x * product ns + k) (row_major ns xs) else None
