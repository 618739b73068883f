-- Intervals, and the numbers that they have.
use Rattle.std.specs.Prelude.{◌≡◌, ℕ, zero, suc, ◌+◌, ◌-◌, ◌<◌, ◌≤◌, List, [], ◌∷◌, ◌++◌}
use Rattle.dt_runs.specs.declared.interval.Interval.{Interval}

-- so many numbers, ascending from the first on
abbrev pub ascending : ℕ → ℕ → List ℕ
ascending first zero = []
ascending first (suc n) = first ∷ ascending (suc first) n

-- the numbers from the first up to, not including, the end, ascending
abbrev pub range : ℕ → ℕ → List ℕ
range first end = ascending first (end - first)

-- the numbers of the intervals, end to end
abbrev pub numbers_of : List Interval → List ℕ
numbers_of [] = []
numbers_of (i ∷ is) = range i.first i.end ++ numbers_of is

-- from the low number on, the intervals ascend, none is empty and no two touch
abbrev pub IsApart : ℕ → List Interval → Type 0
IsApart low [] = Unit {0}
IsApart low (i ∷ is) = (low ≤ i.first) × (i.first < i.end) × IsApart (suc i.end) is

-- each interval knows how many numbers those before it have, and the first has so many before it
abbrev pub IsTallied : ℕ → List Interval → Type 0
IsTallied n [] = Unit {0}
IsTallied n (i ∷ is) = (i.before ≡ n) × IsTallied (n + (i.end - i.first)) is

-- no interval ends after the bound
abbrev pub EndsBy : ℕ → List Interval → Type 0
EndsBy bound [] = Unit {0}
EndsBy bound (i ∷ is) = (i.end ≤ bound) × EndsBy bound is
