-- The tensor that entries give, or the first thing that is wrong with them.
use Rattle.std.specs.Prelude.{◌≡◌, ℕ, ◌+◌, ◌/◌, ◌<◌, ◌≤◌, List, All, IsSome, length, take, map, find, Bool, is_none, is_some, nat_lt, Option, Some, None, option_map, unwrap_or, slice_get, Result, Ok, Err, if◌then◌else◌}
use Rattle.std.specs.List.{filter_map, list_any}
use Rattle.std.specs.Option.{option_and_then}
use Rattle.std.specs.Str.{bytes_eq}
use Rattle.dt_base.specs.Ranges.{below, assignments}
use Rattle.dt_base.specs.Rows.{row_major}
use Rattle.dt_model.specs.Positions.{StoredTensor, IsStored, stored_coords}
use Rattle.dt_model.specs.WholeTensor.{WholeTensor}
use Rattle.dt_runs.specs.Sets.{contains}
use Rattle.dt_tensor.specs.Packed.{Packed}
use Rattle.dt_tensor.specs.declared.entry.Given.{Given}
use Rattle.dt_tensor.specs.declared.packing.PackEnd.{PackEnd}
use Rattle.dt_tensor.specs.declared.packing.PackEnd.TheVariants as ends

-- the number that the entries give at these coordinates, and 0 where they give none
abbrev pub given_at : List Given → List ℕ → ℕ
given_at entries c = unwrap_or (option_map (λ e. e.value) (find (λ e. bytes_eq e.at c) entries)) 0

-- the whole tensor with the number that the entries give at each index
abbrev pub given_whole : List ℕ → List Given → WholeTensor
given_whole ns entries = record { extents = ns; values = map (given_at entries) (assignments ns) }

-- the row-major numbers of the entries that lie in the shape
abbrev pub numbers_given : List ℕ → List Given → List ℕ
numbers_given ns entries = filter_map (λ e. row_major ns e.at) entries

-- those of their fronts, where so many indices are behind each front
abbrev pub fronts_given : List ℕ → ℕ → List Given → List ℕ
fronts_given ns size entries = map (λ n. n / size) (numbers_given ns entries)

-- the numbers are those of the entries
abbrev pub AreGiven : List ℕ → List Given → List ℕ → Type 0
AreGiven ns entries numbers = (n : ℕ) → contains numbers n ≡ contains (numbers_given ns entries) n

-- what these levels store where these entries are given
abbrev pub levels_asked : List ℕ → List Bool → List Given → StoredTensor
levels_asked ns compressed entries = record { extents = ns; compressed = compressed; coords = stored_coords ns compressed (map (λ e. e.at) entries) }

-- the levels that store it, or none where there would be more than 2 ^ 20 positions
abbrev pub AreLevels : Option StoredTensor → StoredTensor → Type 0
AreLevels (Some levels) asked = (levels ≡ asked) × IsStored asked × (length asked.coords ≤ 1048576)
AreLevels None asked = 1048576 < length asked.coords

-- the levels store what is asked for by any entries in the shape that have these numbers
abbrev pub StoreGiven : Option StoredTensor → List ℕ → List Bool → List ℕ → Type 0
StoreGiven levels ns compressed numbers = (entries : List Given) → AreGiven ns entries numbers → All (λ e. IsSome (row_major ns e.at)) entries → AreLevels levels (levels_asked ns compressed entries)

-- what is wrong with an entry, from 1: it lies out of the shape, or one before it has its coordinates
abbrev pub offence : List ℕ → List Given → ℕ → Option PackEnd
offence ns entries k = unwrap_or (option_map (λ e. if is_none (row_major ns e.at) then Some (ends.OutOfShape (k + 1)) else if list_any (λ f. bytes_eq f.at e.at) (take k entries) then Some (ends.Repeated (k + 1)) else None) (slice_get entries k)) None

-- the first thing that is wrong with an entry
abbrev pub first_offence : List ℕ → List Given → Option PackEnd
first_offence ns entries = option_and_then (λ o. o) (find is_some (map (offence ns entries) (below (length entries))))

-- the tensor that stores what its levels ask for where these entries are given
abbrev pub packed_by : List ℕ → List Bool → List Given → List (List ℕ) → Result Packed PackEnd
packed_by ns compressed entries coords = if nat_lt 1048576 (length coords) then Err ends.TooManyStored else Ok (record { extents = ns; compressed = compressed; coords = coords; values = map (given_at entries) coords })

-- the tensor of these entries, or what is wrong
abbrev pub packed_or : Option PackEnd → Result Packed PackEnd → Result Packed PackEnd
packed_or (Some end) tensor = Err end
packed_or None tensor = tensor

unfoldable pub pack_of : List ℕ → List Bool → List Given → Result Packed PackEnd
pack_of ns compressed entries = packed_or (first_offence ns entries) (packed_by ns compressed entries (stored_coords ns compressed (map (λ e. e.at) entries)))

-- a call returned what the entries give, unless memory ran out
abbrev pub IsPack : Result Packed PackEnd → Result Packed PackEnd → Type 0
IsPack (Ok t) given = given ≡ Ok t
IsPack (Err ends.NoMemory) given = Unit {0}
IsPack (Err (ends.OutOfShape k)) given = given ≡ Err (ends.OutOfShape k)
IsPack (Err (ends.Repeated k)) given = given ≡ Err (ends.Repeated k)
IsPack (Err ends.TooManyStored) given = given ≡ Err ends.TooManyStored
