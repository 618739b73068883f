-- Numbers and shapes that stand as words of a line.
use Rattle.std.specs.Prelude.{ℕ, List, [], length, codes, Bool, ◌&&◌, nat_le, if◌then◌else◌, Result}
use Rattle.std.specs.List.{list_all}
use Rattle.std.specs.Str.{bytes_eq}
use Rattle.dt_text.specs.Numbers.{is_numeral, number_of}
use Rattle.dt_text.specs.Parts.{parts_at}
use Rattle.dt_model.specs.declared.cause.Cause.{Cause}
use Rattle.dt_model.specs.declared.cause.Cause.TheVariants as cause
use Rattle.dt_model.specs.Steps.{◌>>=◌, need, found}

-- one or more words in the places of numbers
abbrev pub are_numerals : List (List ℕ) → Bool
are_numerals words = nat_le 1 (length words) && list_all is_numeral words

-- the number of a word: it has to be digits, and then a number below 2 ^ 64
unfoldable pub numeral_of : List ℕ → Result ℕ Cause
numeral_of word = do
  _ ← need (is_numeral word) cause.Syntax
  found (number_of word) cause.BadNumber

-- `scalar`
abbrev pub is_scalar : List ℕ → Bool
is_scalar word = bytes_eq word (codes "scalar")

-- the words of a shape: none where it is `scalar`, and else those that `x` joins
abbrev pub extent_words : List ℕ → List (List ℕ)
extent_words shape = if is_scalar shape then [] else parts_at 120 shape

-- the level letters of a format, which commas join
abbrev pub level_words : List ℕ → List (List ℕ)
level_words format = parts_at 44 format

-- `d`, a dense level
abbrev pub is_dense_letter : List ℕ → Bool
is_dense_letter word = bytes_eq word (codes "d")
