-- Decimal numbers.
use Rattle.std.specs.Prelude.{ℕ, ◌+◌, ◌-◌, ◌*◌, ◌^◌, List, [], ◌∷◌, length, Option, Some, None, option_map, Bool, nat_lt, nat_le, ◌&&◌, if◌then◌else◌}
use Rattle.std.specs.List.{list_all}
use Rattle.std.specs.Option.{option_and_then}

-- 0 to 9
abbrev pub is_digit : ℕ → Bool
is_digit b = nat_le 48 b && nat_le b 57

-- a word in a number's place: one or more digits
abbrev pub is_numeral : List ℕ → Bool
is_numeral word = nat_le 1 (length word) && list_all is_digit word

-- the value of digits: the sum of each one times ten to the number of digits behind it
abbrev pub digits_value : List ℕ → ℕ
digits_value [] = 0
digits_value (d ∷ ds) = (d - 48) * 10 ^ length ds + digits_value ds

-- the value of 1 to 20 digits, where it is below 2 ^ 64
abbrev pub number_of : List ℕ → Option ℕ
number_of ds = if nat_le 1 (length ds) && nat_le (length ds) 20 && list_all is_digit ds && nat_lt (digits_value ds) (2 ^ 64) then Some (digits_value ds) else None

-- the numbers of words, where each word has one
unfoldable pub all_numbers_of : List (List ℕ) → Option (List ℕ)
all_numbers_of [] = Some []
all_numbers_of (word ∷ words) = option_and_then (λ n. option_map (λ ns. n ∷ ns) (all_numbers_of words)) (number_of word)
