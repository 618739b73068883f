-- Rows that are read.
use Rattle.std.proofs.Common.{◌≡◌, ℕ, ◌<◌, List, [], length, get_or, ap, sym, ◌∙◌}
use Rattle.std.proofs.lemmas.List.{get_or_default}

-- a row, at another default
pub row_read : (rows : List (List ℕ)) (a : ℕ) (row : List ℕ) → a < length rows → row ≡ get_or rows a row → row ≡ get_or rows a []
row_read rows a row h e = e ∙ get_or_default rows a row [] h
