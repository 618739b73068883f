-- What a tensor file says of a tensor.
use Rattle.std.specs.Prelude.{ℕ, List, [], ◌∷◌, ◌++◌, length, map}
use Rattle.std.specs.Fmt.{decimal}
use Rattle.std.specs.List.{flat_map, zip}
use Rattle.dt_files.specs.Rows.{given_with}
use Rattle.dt_tensor.specs.Packed.{Packed}
use Rattle.dt_tensor.specs.declared.entry.Given.{Given}

-- the record of an entry: its coordinates, each with a comma behind, then its number and LF
abbrev pub row_text : List ℕ → ℕ → List ℕ
row_text at value = flat_map (λ x. decimal x ++ 44 ∷ []) at ++ (decimal value ++ 10 ∷ [])

-- the stored entries of a tensor, in order of position
abbrev pub stored_entries : Packed → List Given
stored_entries t = map (λ p. given_with p.0 p.1) (zip t.coords t.values)

-- the bytes of a file with the stored entries
unfoldable pub rows_text : Packed → List ℕ
rows_text t = flat_map (λ e. row_text e.at e.value) (stored_entries t)
