-- Flags, and which of them are set.
use Rattle.std.specs.Prelude.{◌≡◌, ℕ, ◌<◌, ◌^◌, Bool, true, false, List, length, map, filter, slice_index_or, sum}
use Rattle.dt_base.specs.Ranges.{below}

-- 1 for a flag that is set
abbrev pub one_if : Bool → ℕ
one_if true = 1
one_if false = 0

-- whether the flag with this number is set
abbrev pub is_set : List Bool → ℕ → Bool
is_set flags i = slice_index_or flags i false

-- the numbers of those that are set, ascending
abbrev pub set_ones : List Bool → List ℕ
set_ones flags = filter (is_set flags) (below (length flags))

-- What is kept beside flags: 1 for each that is set, and their sum.
pub record AreCounted (flags : List Bool) (numbers : List ℕ) (count : ℕ) : Type 0 where
  pub small : length flags < 2 ^ 32
  pub ones : numbers ≡ map one_if flags
  pub sum_is : count ≡ sum (map one_if flags)
