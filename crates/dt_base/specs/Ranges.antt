-- Ranges of numbers, and lists with one number of each range.
use Rattle.std.specs.Prelude.{ℕ, zero, suc, List, [], ◌∷◌, ◌++◌, map}
use Rattle.std.specs.List.{flat_map}

-- the numbers below n, ascending
abbrev pub below : ℕ → List ℕ
below zero = []
below (suc n) = below n ++ n ∷ []

-- each list with one number below each of these extents, in lexicographic order
abbrev pub assignments : List ℕ → List (List ℕ)
assignments [] = [] ∷ []
assignments (n ∷ ns) = flat_map (λ i. map (λ a. i ∷ a) (assignments ns)) (below n)
