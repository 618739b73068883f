-- Fronts of texts.
use Rattle.std.specs.Prelude.{◌≡◌, ℕ, List, length, take}

-- a text begins with this front
abbrev pub IsFrontOf : List ℕ → List ℕ → Type 0
IsFrontOf front text = take (length front) text ≡ front
