-- Sets of names, and extents by name, as lists in the order in which they came.
use Rattle.std.specs.Prelude.{ℕ, Bool, true, List, [], ◌∷◌, ◌++◌, Option, Some, None, is_some, unwrap_or, if◌then◌else◌}
use Rattle.std.specs.List.{list_any}
use Rattle.std.specs.Map.{lookup}
use Rattle.std.specs.Str.{bytes_eq}

-- whether the name is one of these
abbrev pub among : List (List ℕ) → List ℕ → Bool
among names v = list_any (λ w. bytes_eq w v) names

-- the names, with this one at the end unless it stands there
abbrev pub with_name : List (List ℕ) → List ℕ → List (List ℕ)
with_name names v = if among names v then names else names ++ v ∷ []

-- whether the name is one of these, where no list stands for all names
abbrev pub among_common : Option (List (List ℕ)) → List ℕ → Bool
among_common None v = true
among_common (Some names) v = among names v

-- the extent that stands with a name
abbrev pub noted : List (List ℕ × ℕ) → List ℕ → Option ℕ
noted extents v = lookup (λ w. bytes_eq w v) extents

-- that extent, or 0
abbrev pub noted_extent : List (List ℕ × ℕ) → List ℕ → ℕ
noted_extent extents v = unwrap_or (noted extents v) 0

-- the extents, with this one at the end unless the name has one
abbrev pub with_first : List (List ℕ × ℕ) → List ℕ → ℕ → List (List ℕ × ℕ)
with_first extents v n = if is_some (noted extents v) then extents else extents ++ (v, n) ∷ []
