-- The two lists of numbers of a compressed level: the coordinates of all children, and where those of each parent begin and end.
use Rattle.std.specs.Prelude.{ℕ, ◌-◌, ◌==◌, List, [], ◌∷◌, length, Bool, true, ◌&&◌, nat_le, nat_lt, slice_index}
use Rattle.std.specs.List.{list_all, slice_range}

-- the parts of crd from each number of pos up to, not including, the next one
abbrev pub segments : List ℕ → List ℕ → List (List ℕ)
segments [] crd = []
segments (from ∷ []) crd = []
segments (from ∷ to ∷ rest) crd = slice_range crd from to ∷ segments (to ∷ rest) crd

-- whether no number is less than the one before it
abbrev pub never_falls : List ℕ → Bool
never_falls [] = true
never_falls (x ∷ []) = true
never_falls (x ∷ y ∷ rest) = nat_le x y && never_falls (y ∷ rest)

-- whether each number is greater than the one before it
abbrev pub ascends : List ℕ → Bool
ascends [] = true
ascends (x ∷ []) = true
ascends (x ∷ y ∷ rest) = nat_lt x y && ascends (y ∷ rest)

-- whether these numbers cut crd whole: pos has a first number, that is 0, none falls, and the last is the length of crd
abbrev pub cuts_whole : List ℕ → ℕ → Bool
cuts_whole pos count = nat_lt 0 (length pos) && (slice_index pos 0 == 0) && (slice_index pos (length pos - 1) == count) && never_falls pos

-- whether these numbers make a compressed level: pos cuts crd whole, and the coordinates of each segment ascend
abbrev pub are_parts : List ℕ → List ℕ → Bool
are_parts pos crd = cuts_whole pos (length crd) && list_all ascends (segments pos crd)
