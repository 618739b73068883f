-- What a line says: its words, or what is wrong with it.
use Rattle.std.specs.Prelude.{◌≡◌, ℕ, ◌+◌, List, [], ◌∷◌, length, map, Bool, true, not, nat_lt, nat_le, ◌==◌, ◌&&◌, ◌||◌, if◌then◌else◌, Option, Some, None, option_map, position, Result, Ok, Err}
use Rattle.dt_text.specs.Lines.{plain_line}
use Rattle.dt_text.specs.Tokens.{is_blank, behind_blanks, tokens_of}
use Rattle.dt_text.specs.Spans.{token_in}
use Rattle.dt_text.specs.declared.token_list.Token.{Token}
use Rattle.dt_text.specs.declared.text_end.TextEnd.{TextEnd}
use Rattle.dt_text.specs.declared.text_end.TextEnd.TheVariants.{LineTooLong, BadByte, NoMemory}

-- whether nothing stands here, or a comment begins
abbrev pub is_comment : List ℕ → Bool
is_comment [] = true
is_comment (b ∷ bs) = b == 35

-- whether a line is skipped: it has nothing but blanks, or `#` first behind them
abbrev pub is_skipped : List ℕ → Bool
is_skipped plain = is_comment (behind_blanks plain)

-- a byte of a line that is not skipped: a blank or printable ASCII
abbrev pub is_line_byte : ℕ → Bool
is_line_byte b = is_blank b || (nat_le 33 b && nat_le b 126)

-- the place, from 1, of the first byte that such a line may not have
abbrev pub bad_place : List ℕ → Option ℕ
bad_place plain = option_map (λ k. k + 1) (position (λ b. not (is_line_byte b)) plain)

-- these words, unless there is a bad byte
abbrev pub unless_bad : Option ℕ → List (List ℕ) → Result (List (List ℕ)) TextEnd
unless_bad (Some place) words = Err (BadByte place)
unless_bad None words = Ok words

-- the words of a line that is not too long, without its CR
abbrev pub plain_words : List ℕ → Result (List (List ℕ)) TextEnd
plain_words plain = if is_skipped plain then Ok [] else unless_bad (bad_place plain) (tokens_of plain)

-- the words of a line, or the first thing that is wrong with it
unfoldable pub line_words : List ℕ → Result (List (List ℕ)) TextEnd
line_words bytes = if nat_lt 1048576 (length bytes) then Err LineTooLong else plain_words (plain_line bytes)

-- an end other than want of memory is what the line says
abbrev pub GivesEnd : TextEnd → Result (List (List ℕ)) TextEnd → Type 0
GivesEnd LineTooLong words = words ≡ Err LineTooLong
GivesEnd (BadByte place) words = words ≡ Err (BadByte place)
GivesEnd NoMemory words = Unit {0}

-- tokens of a text are the words that a line says, or the end is the one that it says
abbrev pub GivesWords : List ℕ → Result (List Token) TextEnd → Result (List (List ℕ)) TextEnd → Type 0
GivesWords text (Ok ts) words = words ≡ Ok (map (token_in text) ts)
GivesWords text (Err end) words = GivesEnd end words
