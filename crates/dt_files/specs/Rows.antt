-- What the records of a tensor file give.
use Rattle.std.specs.Prelude.{◌≡◌, ℕ, ◌+◌, ◌-◌, ◌^◌, ◌==◌, min, List, [], ◌∷◌, length, take, map, find, Bool, is_none, nat_lt, Option, Some, None, option_map, slice_index_or, Result, Ok, Err, if◌then◌else◌}
use Rattle.std.specs.List.{filter_map}
use Rattle.std.specs.Option.{option_and_then}
use Rattle.csv.specs.Reading.{default_config, records, strip_bom}
use Rattle.dt_base.specs.Ranges.{below}
use Rattle.dt_files.specs.declared.ends.RowsEnd.{RowsEnd}
use Rattle.dt_files.specs.declared.ends.RowsEnd.TheVariants as ends
use Rattle.dt_tensor.specs.declared.entry.Given.{Given}
use Rattle.dt_text.specs.Numbers.{number_of}

-- the number of a field, where it is below 2 ^ 32
abbrev pub coordinate_of : List ℕ → Option ℕ
coordinate_of field = option_and_then (λ n. if nat_lt n (2 ^ 32) then Some n else None) (number_of field)

-- the coordinates of fields, where each has one
unfoldable pub coordinates_of : List (List ℕ) → Option (List ℕ)
coordinates_of [] = Some []
coordinates_of (field ∷ fields) = option_and_then (λ x. option_map (λ xs. x ∷ xs) (coordinates_of fields)) (coordinate_of field)

-- the entry with these coordinates and this number
abbrev pub given_with : List ℕ → ℕ → Given
given_with at value = record { at = at; value = value }

-- the entry of a record: so many coordinates, and one number behind them
unfoldable pub entry_of : ℕ → List (List ℕ) → Option Given
entry_of order fields = if length fields == order + 1 then option_and_then (λ at. option_map (given_with at) (number_of (slice_index_or fields order []))) (coordinates_of (take order fields)) else None

-- the entries, where no record is the first that has none; such a record's number counts from 1 and ends at 2 ^ 32 - 1
abbrev pub read_or : Option ℕ → List Given → Result (List Given) RowsEnd
read_or (Some k) entries = Err (ends.BadRow (min (k + 1) (2 ^ 32 - 1)))
read_or None entries = Ok entries

-- what records give
unfoldable pub entries_of : ℕ → List (List (List ℕ)) → Result (List Given) RowsEnd
entries_of order rows = read_or (find (λ k. is_none (entry_of order (slice_index_or rows k []))) (below (length rows))) (filter_map (entry_of order) rows)

-- what the records of a file give, with no byte order mark in front
abbrev pub rows_read : ℕ → List ℕ → Result (List Given) RowsEnd
rows_read order bytes = entries_of order (records default_config (strip_bom bytes))

-- a call returned what the records give, unless memory ran out
abbrev pub IsRead : Result (List Given) RowsEnd → Result (List Given) RowsEnd → Type 0
IsRead (Ok entries) given = given ≡ Ok entries
IsRead (Err ends.NoMemory) given = Unit {0}
IsRead (Err (ends.BadRow n)) given = given ≡ Err (ends.BadRow n)
