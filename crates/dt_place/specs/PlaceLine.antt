-- What a `place` line says behind its first word.
use Rattle.std.specs.Prelude.{ℕ, List, [], ◌∷◌, ◌++◌, length, codes, Bool, not, ◌&&◌, ◌==◌, nat_le, if◌then◌else◌, Option, Some, None, option_map, position, Result, Ok, Err}
use Rattle.std.specs.List.{list_all, zip}
use Rattle.std.specs.Str.{bytes_eq}
use Rattle.dt_runs.specs.Sets.{contains}
use Rattle.dt_text.specs.Names.{is_name}
use Rattle.dt_model.specs.declared.cause.Cause.{Cause}
use Rattle.dt_model.specs.declared.cause.Cause.TheVariants as cause
use Rattle.dt_model.specs.Steps.{◌>>=◌, need, found, none}
use Rattle.dt_place.specs.declared.placements.Placement.{Placement}
use Rattle.dt_place.specs.declared.placements.Placement.TheVariants.{ByNames}
use Rattle.dt_place.specs.declared.placements.Symbol.{Symbol}
use Rattle.dt_place.specs.declared.placements.Symbol.TheVariants.{Along}
use Rattle.dt_place.specs.declared.place_form.PlaceForm.{PlaceForm}

-- a to z
abbrev pub is_lower : ℕ → Bool
is_lower b = nat_le 97 b && nat_le b 122

-- one or more lower-case letters
abbrev pub are_letters : List ℕ → Bool
are_letters word = nat_le 1 (length word) && list_all is_lower word

-- `-`, the letters of a scalar
abbrev pub is_dash : List ℕ → Bool
is_dash word = bytes_eq word (codes "-")

-- `->`
abbrev pub is_arrow : List ℕ → Bool
is_arrow word = bytes_eq word (codes "->")

-- a level: one letter for each dimension of the machine; `nz` is none
abbrev pub is_level : List ℕ → Bool
is_level word = are_letters word && not (bytes_eq word (codes "nz"))

-- the letters of a tensor's dimensions, none for a scalar
unfoldable pub letters_of : List ℕ → Result (List ℕ) Cause
letters_of word = if is_dash word then Ok [] else (do
  _ ← need (are_letters word) cause.Syntax
  Ok word)

-- `NAME LETTERS -> LEVEL`
unfoldable pub form_of : List (List ℕ) → Result PlaceForm Cause
form_of (name ∷ letters ∷ arrow ∷ level ∷ []) = do
  _ ← need (is_name name && is_arrow arrow && is_level level) cause.Syntax
  ls ← letters_of letters
  Ok (record { name = name; letters = ls; levels = level ∷ [] })
form_of _ = Err cause.Syntax

-- the first letter that has stood already, where `seen` stands before
abbrev pub repeated_after : List ℕ → List ℕ → Option ℕ
repeated_after seen [] = None
repeated_after seen (x ∷ xs) = if contains seen x then Some x else repeated_after (seen ++ x ∷ []) xs

-- the first letter that stands twice
abbrev pub repeated_letter : List ℕ → Option Cause
repeated_letter letters = option_map (λ x. cause.NameTwice (x ∷ [])) (repeated_after [] letters)

-- each level of the machine has one symbol for each of its dimensions
abbrev pub have_dims : List (List ℕ) → List (List ℕ) → Bool
have_dims texts levels = length texts == length levels && list_all (λ p. length p.0 == length p.1) (zip texts levels)

-- one symbol of a level, a letter of the tensor's dimensions that has not stood in the level already; `seen` has
unfoldable pub symbol_of : List ℕ → List ℕ → ℕ → Result Symbol Cause
symbol_of letters seen x = do
  d ← found (position (λ y. y == x) letters) (cause.UnknownName (x ∷ []))
  _ ← need (not (contains seen x)) (cause.NameTwiceInLevel (x ∷ []))
  Ok (Along d)

-- the symbols of the rest of a level, where `seen` stands before them
unfoldable pub level_symbols : List ℕ → List ℕ → List ℕ → Result (List Symbol) Cause
level_symbols letters seen [] = Ok []
level_symbols letters seen (x ∷ xs) = do
  symbol ← symbol_of letters seen x
  symbols ← level_symbols letters (seen ++ x ∷ []) xs
  Ok (symbol ∷ symbols)

-- the symbols of all levels, in order
unfoldable pub symbols_of : List ℕ → List (List ℕ) → Result (List Symbol) Cause
symbols_of letters [] = Ok []
symbols_of letters (level ∷ levels) = do
  symbols ← level_symbols letters [] level
  more ← symbols_of letters levels
  Ok (symbols ++ more)

-- the placement of a tensor of this order on a machine with these levels
unfoldable pub placed_of : PlaceForm → ℕ → List (List ℕ) → Result Placement Cause
placed_of f order levels = do
  _ ← need (length f.letters == order) (cause.WrongOrder f.name)
  _ ← none (repeated_letter f.letters)
  _ ← need (have_dims f.levels levels) cause.WrongDims
  symbols ← symbols_of f.letters f.levels
  Ok (ByNames symbols)

-- a whole line
unfoldable pub place_line : List (List ℕ) → ℕ → List (List ℕ) → Result Placement Cause
place_line words order levels = do
  f ← form_of words
  placed_of f order levels
