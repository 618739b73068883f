-- Two sets side by side.
use Rattle.std.specs.Prelude.{ℕ, List, [], ◌∷◌, Bool, false, not, ◌&&◌, ◌||◌, nat_le, if◌then◌else◌}
use Rattle.dt_runs.specs.declared.combine.Combination.{Combination}
use Rattle.dt_runs.specs.declared.combine.Combination.TheVariants.{Both, OnlyLeft, Either}
use Rattle.dt_runs.specs.declared.interval.Interval.{Interval}

-- whether a number is kept, by whether the left set and the right set have it
abbrev pub keeps_of : Combination → Bool → Bool → Bool
keeps_of Both left right = left && right
keeps_of OnlyLeft left right = left && not right
keeps_of Either left right = left || right

-- whether the first of the intervals begins at or before the number
abbrev pub is_begun : List Interval → ℕ → Bool
is_begun [] at = false
is_begun (i ∷ is) at = nat_le i.first at

-- the end of the first interval once it has begun, and until then its beginning
abbrev pub change_after : List Interval → ℕ → ℕ
change_after [] at = 4294967295
change_after (i ∷ is) at = if nat_le i.first at then i.end else i.first

-- the intervals without the first, if that ends at or before the number
abbrev pub past_of : List Interval → ℕ → List Interval
past_of [] at = []
past_of (i ∷ is) at = if nat_le i.end at then is else i ∷ is
