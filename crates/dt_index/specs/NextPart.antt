-- How a list of terms goes on.
use Rattle.std.specs.Prelude.{◌≡◌, List, [], ◌∷◌, Bool}
use Rattle.dt_index.specs.Form.{is_minus, term_parts}
use Rattle.dt_index.specs.declared.symbol_list.Symbol.{Symbol}

-- the symbols are one term
abbrev pub IsOnePart : List Symbol → Type 0
IsOnePart symbols = (minus : Bool) → term_parts minus symbols ≡ record { minus = minus; symbols = symbols } ∷ []

-- the symbols are a term, a sign, and more terms
abbrev pub HasPart : List Symbol → List Symbol → Symbol → List Symbol → Type 0
HasPart symbols front sign behind = (minus : Bool) → term_parts minus symbols ≡ record { minus = minus; symbols = front } ∷ term_parts (is_minus sign) behind
