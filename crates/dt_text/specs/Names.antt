-- Names.
use Rattle.std.specs.Prelude.{ℕ, List, [], ◌∷◌, length, Bool, false, nat_le, ◌==◌, ◌&&◌, ◌||◌}
use Rattle.std.specs.List.{list_all}
use Rattle.dt_text.specs.Numbers.{is_digit}

-- A to Z and a to z
abbrev pub is_letter : ℕ → Bool
is_letter b = (nat_le 65 b && nat_le b 90) || (nat_le 97 b && nat_le b 122)

-- a letter, a digit or `_`
abbrev pub is_name_byte : ℕ → Bool
is_name_byte b = is_letter b || is_digit b || (b == 95)

-- a letter, and then letters, digits and `_`: 1 to 16 bytes in all
abbrev pub is_name : List ℕ → Bool
is_name [] = false
is_name (b ∷ bs) = is_letter b && list_all is_name_byte bs && nat_le (length (b ∷ bs)) 16
