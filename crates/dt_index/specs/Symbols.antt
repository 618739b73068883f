-- The symbols of a statement's text: names, numbers and signs, with blanks free between them.
use Rattle.std.specs.Prelude.{ℕ, List, [], ◌∷◌, Bool, false, ◌&&◌, ◌||◌, ◌==◌, if◌then◌else◌, max, Option, Some, None, Result, Ok}
use Rattle.std.specs.List.{prefix_len}
use Rattle.dt_text.specs.Lines.{onto_first}
use Rattle.dt_text.specs.Names.{is_name, is_name_byte}
use Rattle.dt_text.specs.Numbers.{is_numeral, number_of}
use Rattle.dt_text.specs.Tokens.{is_blank}
use Rattle.dt_model.specs.declared.cause.Cause.{Cause}
use Rattle.dt_model.specs.declared.cause.Cause.TheVariants as cause
use Rattle.dt_model.specs.Steps.{◌>>=◌, found}
use Rattle.dt_index.specs.declared.symbol_list.Symbol.{Symbol}
use Rattle.dt_index.specs.declared.symbol_list.Symbol.TheVariants as symbol

-- whether a text begins with this byte
abbrev pub starts_with : ℕ → List ℕ → Bool
starts_with b [] = false
starts_with b (c ∷ cs) = c == b

-- whether a word goes on here
abbrev pub starts_word : List ℕ → Bool
starts_word [] = false
starts_word (b ∷ bs) = is_name_byte b

-- whether a text begins with `+=`
abbrev pub starts_with_plus_equals : List ℕ → Bool
starts_with_plus_equals [] = false
starts_with_plus_equals (b ∷ bs) = b == 43 && starts_with 61 bs

-- the length of the piece that begins a text without blanks at its front: `+=`, a word, or one byte
abbrev pub first_len : List ℕ → ℕ
first_len text = if starts_with_plus_equals text then 2 else max 1 (prefix_len is_name_byte text)

-- whether a piece goes on behind the byte b: a word behind a byte of it, or `=` behind `+`
abbrev pub goes_on : ℕ → List ℕ → Bool
goes_on b bs = (is_name_byte b && starts_word bs) || (b == 43 && starts_with 61 bs)

-- the pieces of a text: words of letters, digits and `_`, the pair `+=`, and each other byte that is no blank
abbrev pub pieces_of : List ℕ → List (List ℕ)
pieces_of [] = []
pieces_of (b ∷ bs) = if is_blank b then pieces_of bs else (if goes_on b bs then onto_first b (pieces_of bs) else (b ∷ []) ∷ pieces_of bs)

-- the sign of one byte, or `+=`
abbrev pub sign_of : List ℕ → Option Symbol
sign_of (b ∷ []) = if b == 40 then Some symbol.Open else if b == 41 then Some symbol.Close else if b == 44 then Some symbol.Comma else if b == 42 then Some symbol.Times else if b == 43 then Some symbol.Plus else if b == 45 then Some symbol.Minus else if b == 61 then Some symbol.Equals else None
sign_of (b ∷ c ∷ []) = if b == 43 && c == 61 then Some symbol.PlusEquals else None
sign_of _ = None

-- the symbol that a piece is: a name, a number or a sign
abbrev pub symbol_of : List ℕ → Option Symbol
symbol_of piece = if is_name piece then Some (symbol.Name piece) else if is_numeral piece then Some (symbol.Number (number_of piece)) else sign_of piece

-- the symbols of pieces, each of which has to be one
unfoldable pub symbols_from : List (List ℕ) → Result (List Symbol) Cause
symbols_from [] = Ok []
symbols_from (piece ∷ pieces) = do
  s ← found (symbol_of piece) cause.Syntax
  ss ← symbols_from pieces
  Ok (s ∷ ss)

-- the symbols of a text
abbrev pub symbols_of : List ℕ → Result (List Symbol) Cause
symbols_of text = symbols_from (pieces_of text)
