-- Lines of a text.
use Rattle.std.specs.Prelude.{ℕ, ◌-◌, List, [], ◌∷◌, length, take, slice_index, Bool, ◌==◌, if◌then◌else◌}

-- LF
abbrev pub is_line_end : ℕ → Bool
is_line_end b = b == 10

-- these pieces, with one more byte at the front of the first
abbrev pub onto_first : ℕ → List (List ℕ) → List (List ℕ)
onto_first b [] = (b ∷ []) ∷ []
onto_first b (l ∷ ls) = (b ∷ l) ∷ ls

-- the lines of a text: each ends with LF, which the last line may lack
abbrev pub lines_of : List ℕ → List (List ℕ)
lines_of [] = []
lines_of (b ∷ bs) = if is_line_end b then [] ∷ lines_of bs else onto_first b (lines_of bs)

-- whether the last byte is CR
abbrev pub ends_with_cr : List ℕ → Bool
ends_with_cr bytes = slice_index bytes (length bytes - 1) == 13

-- the bytes of a line without one CR at their end
abbrev pub plain_line : List ℕ → List ℕ
plain_line bytes = if ends_with_cr bytes then take (length bytes - 1) bytes else bytes
