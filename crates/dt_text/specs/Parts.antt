-- The parts of a token.
use Rattle.std.specs.Prelude.{ℕ, List, [], ◌∷◌, Bool, ◌==◌, if◌then◌else◌}
use Rattle.dt_text.specs.Lines.{onto_first}

-- whether a byte is this one
abbrev pub is_byte : ℕ → ℕ → Bool
is_byte separator b = b == separator

-- the parts of a token between the bytes that separate them
abbrev pub parts_at : ℕ → List ℕ → List (List ℕ)
parts_at separator [] = [] ∷ []
parts_at separator (b ∷ bs) = if is_byte separator b then [] ∷ parts_at separator bs else onto_first b (parts_at separator bs)
