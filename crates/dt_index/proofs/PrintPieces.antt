-- Pieces and symbols at the front of a printed text.
use Rattle.std.proofs.Common.{◌≡◌, ℕ, ◌+◌, ◌/◌, ◌%◌, ◌^◌, ◌<◌, ◌≤◌, List, [], ◌∷◌, ◌++◌, length, true, false, ◌&&◌, ◌==◌, nat_le, Some, Ok, nat_lt, length-append, refl, ap, ◌∙◌, arith}
use Rattle.std.specs.List.{list_all}
use Rattle.std.specs.Fmt.{decimal}
use Rattle.std.proofs.lemmas.Bool.{and_parts, lt-ltb, le-leb}
use Rattle.std.proofs.lemmas.Bool.Decides.{nat_tests}
use Rattle.std.proofs.lemmas.Fmt.{decimal_by_steps, length-decimal-le}
use Rattle.std.proofs.lemmas.List.Folds.{list_all-append}
use Rattle.dt_text.specs.Lines.{onto_first}
use Rattle.dt_text.specs.Names.{is_letter, is_name, is_name_byte}
use Rattle.dt_text.specs.Numbers.{digits_value, is_digit, is_numeral, number_of}
use Rattle.dt_text.specs.Tokens.{is_blank}
use Rattle.dt_text.proofs.Decimals.{Writes, decimal_writes}
use Rattle.dt_index.specs.Symbols.{goes_on, pieces_of, starts_word, symbol_of, symbols_from, symbols_of}
use Rattle.dt_index.specs.declared.symbol_list.Symbol.{Symbol}
use Rattle.dt_index.specs.declared.symbol_list.Symbol.TheVariants as symbol
use Rattle.dt_index.proofs.Pieces.{joined, name_is_no_blank, no_word}
use Rattle.dt_index.proofs.PrintForms.{IsName}

-- the text has these symbols
abbrev pub Reads : List ℕ → List Symbol → Type 0
Reads text symbols = symbols_of text ≡ Ok symbols

-- Pieces --------------------------------------------------------------------------------------------------------------

alone : (b : ℕ) (bs : List ℕ) → is_blank b ≡ false → goes_on b bs ≡ false → pieces_of (b ∷ bs) ≡ (b ∷ []) ∷ pieces_of bs
alone b bs e g = rw (e, g) refl

word_goes_on : (b c : ℕ) (cs : List ℕ) → is_name_byte b ≡ true → is_name_byte c ≡ true → goes_on b (c ∷ cs) ≡ true
word_goes_on b c cs h k = rw (h, k) refl

-- a word is a piece where no word goes on behind it
word_piece : (b : ℕ) (bs rest : List ℕ) → is_name_byte b ≡ true → list_all is_name_byte bs ≡ true → starts_word rest ≡ false → pieces_of ((b ∷ bs) ++ rest) ≡ (b ∷ bs) ∷ pieces_of rest
word_piece b [] rest h a s = alone b rest (name_is_no_blank b h) (no_word b rest h s)
word_piece b (c ∷ cs) rest h a s =
    let parts : (is_name_byte c ≡ true) × (list_all is_name_byte cs ≡ true) = and_parts (is_name_byte c) (list_all is_name_byte cs) a in
    joined b ((c ∷ cs) ++ rest) (name_is_no_blank b h) (word_goes_on b c (cs ++ rest) h parts.0) ∙ ap (λ (ps : List (List ℕ)). onto_first b ps) (word_piece c cs rest parts.0 parts.1 s)

-- Symbols -------------------------------------------------------------------------------------------------------------

symbols_from-ok : (piece : List ℕ) (pieces : List (List ℕ)) (s : Symbol) (ss : List Symbol) → symbol_of piece ≡ Some s → symbols_from pieces ≡ Ok ss → symbols_from (piece ∷ pieces) ≡ Ok (s ∷ ss)
unfolding symbols_from
symbols_from-ok piece pieces s ss h r = rw (h, r) refl

-- nothing has no symbols
pub nothing_reads : Reads [] []
unfolding symbols_from
nothing_reads = refl

piece_reads : (piece text rest : List ℕ) (s : Symbol) (ss : List Symbol) → symbol_of piece ≡ Some s → pieces_of text ≡ piece ∷ pieces_of rest → Reads rest ss → Reads text (s ∷ ss)
piece_reads piece text rest s ss h p r = ap (λ (ps : List (List ℕ)). symbols_from ps) p ∙ symbols_from-ok piece (pieces_of rest) s ss h r

pub open_reads : (rest : List ℕ) (ss : List Symbol) → Reads rest ss → Reads (40 ∷ rest) (symbol.Open ∷ ss)
open_reads rest ss r = piece_reads (40 ∷ []) (40 ∷ rest) rest symbol.Open ss refl refl r

pub close_reads : (rest : List ℕ) (ss : List Symbol) → Reads rest ss → Reads (41 ∷ rest) (symbol.Close ∷ ss)
close_reads rest ss r = piece_reads (41 ∷ []) (41 ∷ rest) rest symbol.Close ss refl refl r

pub comma_reads : (rest : List ℕ) (ss : List Symbol) → Reads rest ss → Reads (44 ∷ rest) (symbol.Comma ∷ ss)
comma_reads rest ss r = piece_reads (44 ∷ []) (44 ∷ rest) rest symbol.Comma ss refl refl r

pub times_reads : (rest : List ℕ) (ss : List Symbol) → Reads rest ss → Reads (32 ∷ 42 ∷ 32 ∷ rest) (symbol.Times ∷ ss)
times_reads rest ss r = piece_reads (42 ∷ []) (32 ∷ 42 ∷ 32 ∷ rest) rest symbol.Times ss refl refl r

pub plus_reads : (rest : List ℕ) (ss : List Symbol) → Reads rest ss → Reads (32 ∷ 43 ∷ 32 ∷ rest) (symbol.Plus ∷ ss)
plus_reads rest ss r = piece_reads (43 ∷ []) (32 ∷ 43 ∷ 32 ∷ rest) rest symbol.Plus ss refl refl r

pub minus_reads : (rest : List ℕ) (ss : List Symbol) → Reads rest ss → Reads (45 ∷ 32 ∷ rest) (symbol.Minus ∷ ss)
minus_reads rest ss r = piece_reads (45 ∷ []) (45 ∷ 32 ∷ rest) rest symbol.Minus ss refl refl r

pub equals_reads : (rest : List ℕ) (ss : List Symbol) → Reads rest ss → Reads (32 ∷ 61 ∷ 32 ∷ rest) (symbol.Equals ∷ ss)
equals_reads rest ss r = piece_reads (61 ∷ []) (32 ∷ 61 ∷ 32 ∷ rest) rest symbol.Equals ss refl refl r

pub plus_equals_reads : (rest : List ℕ) (ss : List Symbol) → Reads rest ss → Reads (32 ∷ 43 ∷ 61 ∷ 32 ∷ rest) (symbol.PlusEquals ∷ ss)
plus_equals_reads rest ss r = piece_reads (43 ∷ 61 ∷ []) (32 ∷ 43 ∷ 61 ∷ 32 ∷ rest) rest symbol.PlusEquals ss refl refl r

-- Names and numbers ---------------------------------------------------------------------------------------------------

letter_is_name_byte : (b : ℕ) → is_letter b ≡ true → is_name_byte b ≡ true
letter_is_name_byte b h = rw h refl

name_symbol : (w : List ℕ) → is_name w ≡ true → symbol_of w ≡ Some (symbol.Name w)
name_symbol w h = rw h refl

-- a name is read where no word goes on behind it
pub name_reads : (w rest : List ℕ) (ss : List Symbol) → IsName w → starts_word rest ≡ false → Reads rest ss → Reads (w ++ rest) (symbol.Name w ∷ ss)
name_reads [] rest ss h s r = cc
name_reads (b ∷ bs) rest ss h s r =
    let short : ((is_letter b && list_all is_name_byte bs) ≡ true) × (nat_le (length (b ∷ bs)) 16 ≡ true) = and_parts (is_letter b && list_all is_name_byte bs) (nat_le (length (b ∷ bs)) 16) h in
    let parts : (is_letter b ≡ true) × (list_all is_name_byte bs ≡ true) = and_parts (is_letter b) (list_all is_name_byte bs) short.0 in
    piece_reads (b ∷ bs) ((b ∷ bs) ++ rest) rest (symbol.Name (b ∷ bs)) ss (name_symbol (b ∷ bs) h) (word_piece b bs rest (letter_is_name_byte b parts.0) parts.1 s) r

digit_is_name_byte : (b : ℕ) → is_digit b ≡ true → is_name_byte b ≡ true
digit_is_name_byte b h = grind (arith, nat_tests)

digit_is_no_letter : (b : ℕ) → is_digit b ≡ true → is_letter b ≡ false
digit_is_no_letter b h = grind (arith, nat_tests)

digits_are_name_bytes : (ds : List ℕ) → list_all is_digit ds ≡ true → list_all is_name_byte ds ≡ true
digits_are_name_bytes [] h = refl
digits_are_name_bytes (d ∷ ds) h =
    let parts : (is_digit d ≡ true) × (list_all is_digit ds ≡ true) = and_parts (is_digit d) (list_all is_digit ds) h in
    rw (digit_is_name_byte d parts.0) (digits_are_name_bytes ds parts.1)

no_name : (d : ℕ) (ds : List ℕ) → is_digit d ≡ true → is_name (d ∷ ds) ≡ false
no_name d ds h = rw (digit_is_no_letter d h) refl

numeral : (ds : List ℕ) → nat_le 1 (length ds) ≡ true → list_all is_digit ds ≡ true → is_numeral ds ≡ true
numeral ds l a = rw (l, a) refl

number_is : (ds : List ℕ) (n : ℕ) → nat_le 1 (length ds) ≡ true → nat_le (length ds) 20 ≡ true → list_all is_digit ds ≡ true → digits_value ds ≡ n → nat_lt n (2 ^ 64) ≡ true → number_of ds ≡ Some n
number_is ds n l k a v s = rw (l, k, a, v, s) refl

number_symbol : (ds : List ℕ) (n : ℕ) → is_name ds ≡ false → is_numeral ds ≡ true → number_of ds ≡ Some n → symbol_of ds ≡ Some (symbol.Number (Some n))
number_symbol ds n h k e = rw (h, k, e) refl

digits_read : (ds rest : List ℕ) (n : ℕ) (ss : List Symbol) → Writes n ds → length ds ≤ 20 → n < 2 ^ 64 → starts_word rest ≡ false → Reads rest ss → Reads (ds ++ rest) (symbol.Number (Some n) ∷ ss)
digits_read [] rest n ss w k h s r = absurd (omega (arith, w.some))
digits_read (d ∷ ds) rest n ss w k h s r =
    let parts : (is_digit d ≡ true) × (list_all is_digit ds ≡ true) = and_parts (is_digit d) (list_all is_digit ds) w.digits in
    let some : nat_le 1 (length (d ∷ ds)) ≡ true = le-leb 1 (length (d ∷ ds)) w.some in
    let number : number_of (d ∷ ds) ≡ Some n = number_is (d ∷ ds) n some (le-leb (length (d ∷ ds)) 20 k) w.digits w.value (lt-ltb n (2 ^ 64) h) in
    piece_reads (d ∷ ds) ((d ∷ ds) ++ rest) rest (symbol.Number (Some n)) ss (number_symbol (d ∷ ds) n (no_name d ds parts.0) (numeral (d ∷ ds) some w.digits) number)
    (word_piece d ds rest (digit_is_name_byte d parts.0) (digits_are_name_bytes ds parts.1) s) r

-- a number is read where no word goes on behind it
pub number_reads : (n : ℕ) (rest : List ℕ) (ss : List Symbol) → n < 2 ^ 64 → starts_word rest ≡ false → Reads rest ss → Reads (decimal n ++ rest) (symbol.Number (Some n) ∷ ss)
number_reads n rest ss h s r = digits_read (decimal n) rest n ss (decimal_writes n h) (length-decimal-le 20 n (omega arith) (omega arith) h) h s r
