-- The form of a statement, on its symbols.
use Rattle.std.specs.Prelude.{ℕ, List, [], ◌∷◌, length, Bool, true, false, ◌==◌, ◌&&◌, if◌then◌else◌, find, Option, Some, None, Result, Ok, Err}
use Rattle.std.specs.List.{before_first, after_first}
use Rattle.dt_model.specs.declared.cause.Cause.{Cause}
use Rattle.dt_model.specs.declared.cause.Cause.TheVariants as cause
use Rattle.dt_model.specs.Steps.{◌>>=◌, found, need}
use Rattle.dt_index.specs.declared.form.Form.{Form}
use Rattle.dt_index.specs.declared.form.NamedAccess.{NamedAccess}
use Rattle.dt_index.specs.declared.form.NamedFactor.{NamedFactor}
use Rattle.dt_index.specs.declared.form.NamedFactor.TheVariants as factor
use Rattle.dt_index.specs.declared.form.NamedTerm.{NamedTerm}
use Rattle.dt_index.specs.declared.symbol_list.Symbol.{Symbol}
use Rattle.dt_index.specs.declared.symbol_list.Symbol.TheVariants as symbol

-- the sign `,`
abbrev pub is_comma : Symbol → Bool
is_comma symbol.Comma = true
is_comma _ = false

-- the sign `(`
abbrev pub is_open : Symbol → Bool
is_open symbol.Open = true
is_open _ = false

-- the sign `)`
abbrev pub is_close : Symbol → Bool
is_close symbol.Close = true
is_close _ = false

-- the sign `*`
abbrev pub is_times : Symbol → Bool
is_times symbol.Times = true
is_times _ = false

-- the sign `-`
abbrev pub is_minus : Symbol → Bool
is_minus symbol.Minus = true
is_minus _ = false

-- the signs that join terms: `+` and `-`
abbrev pub is_plus_or_minus : Symbol → Bool
is_plus_or_minus symbol.Plus = true
is_plus_or_minus symbol.Minus = true
is_plus_or_minus _ = false

-- the sign `+=`
abbrev pub is_plus_equals : Symbol → Bool
is_plus_equals symbol.PlusEquals = true
is_plus_equals _ = false

-- the signs behind a left side: `=` and `+=`
abbrev pub is_assignment : Symbol → Bool
is_assignment symbol.Equals = true
is_assignment symbol.PlusEquals = true
is_assignment _ = false

-- the name that a symbol is
abbrev pub name_of : Symbol → Option (List ℕ)
name_of (symbol.Name n) = Some n
name_of _ = None

-- variables parted by commas, with a closing parenthesis at the end
unfoldable pub vars_of : List Symbol → Result (List (List ℕ)) Cause
vars_of [] = Err cause.Syntax
vars_of (s ∷ []) = Err cause.Syntax
vars_of (s ∷ sign ∷ rest) = do
  v ← found (name_of s) cause.Syntax
  if is_comma sign
      then (do
        vs ← vars_of rest
        Ok (v ∷ vs))
      else (do
        _ ← need (is_close sign && length rest == 0) cause.Syntax
        Ok (v ∷ []))

-- what may stand behind a tensor's name: nothing, or its variables in parentheses
unfoldable pub vars_behind : List Symbol → Result (List (List ℕ)) Cause
vars_behind [] = Ok []
vars_behind (s ∷ rest) = do
  _ ← need (is_open s) cause.Syntax
  vars_of rest

-- an access: a tensor's name, and in parentheses its variables, if it has any
unfoldable pub access_of : List Symbol → Result NamedAccess Cause
access_of [] = Err cause.Syntax
access_of (s ∷ rest) = do
  t ← found (name_of s) cause.Syntax
  vs ← vars_behind rest
  Ok (record { tensor = t; vars = vs })

-- a factor: a number that stands alone, or an access
unfoldable pub factor_of : List Symbol → Result NamedFactor Cause
factor_of (symbol.Number n ∷ []) = Ok (factor.Literal n)
factor_of symbols = do
  a ← access_of symbols
  Ok (factor.Read a)

-- these lists, with one more symbol at the front of the first
abbrev pub onto_first_part : Symbol → List (List Symbol) → List (List Symbol)
onto_first_part s [] = (s ∷ []) ∷ []
onto_first_part s (part ∷ parts) = (s ∷ part) ∷ parts

-- what stands between the signs `*`
abbrev pub factor_parts : List Symbol → List (List Symbol)
factor_parts [] = [] ∷ []
factor_parts (s ∷ ss) = if is_times s then [] ∷ factor_parts ss else onto_first_part s (factor_parts ss)

-- the factor that each part is
unfoldable pub factors_in : List (List Symbol) → Result (List NamedFactor) Cause
factors_in [] = Ok []
factors_in (part ∷ parts) = do
  f ← factor_of part
  fs ← factors_in parts
  Ok (f ∷ fs)

-- symbols behind a sign, which is `-` or not
pub record SignedPart : Type 0 where
  pub minus : Bool
  pub symbols : List Symbol

-- these parts, with one more symbol at the front of the first
abbrev pub onto_first_signed : Symbol → List SignedPart → List SignedPart
onto_first_signed s [] = []
onto_first_signed s (part ∷ parts) = record part { symbols = s ∷ part.symbols } ∷ parts

-- what stands between the signs `+` and `-`, each part with the sign before it, where `minus` is the first one
abbrev pub term_parts : Bool → List Symbol → List SignedPart
term_parts minus [] = record { minus = minus; symbols = [] } ∷ []
term_parts minus (s ∷ ss) = if is_plus_or_minus s then record { minus = minus; symbols = [] } ∷ term_parts (is_minus s) ss else onto_first_signed s (term_parts minus ss)

-- the term that each part is
unfoldable pub terms_in : List SignedPart → Result (List NamedTerm) Cause
terms_in [] = Ok []
terms_in (part ∷ parts) = do
  fs ← factors_in (factor_parts part.symbols)
  ts ← terms_in parts
  Ok (record { minus = part.minus; factors = fs } ∷ ts)

-- the terms of a right side, which may begin with `-`
unfoldable pub right_side_of : List Symbol → Result (List NamedTerm) Cause
right_side_of (symbol.Minus ∷ rest) = terms_in (term_parts true rest)
right_side_of symbols = terms_in (term_parts false symbols)

-- a statement: a left access, `=` or `+=`, and the terms of its right side
unfoldable pub form_of : List Symbol → Result Form Cause
form_of symbols = do
  sign ← found (find is_assignment symbols) cause.Syntax
  lhs ← access_of (before_first is_assignment symbols)
  terms ← right_side_of (after_first is_assignment symbols)
  Ok (record { lhs = lhs; adds = is_plus_equals sign; terms = terms })
