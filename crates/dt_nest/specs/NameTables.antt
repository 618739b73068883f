-- Names by their numbers.
use Rattle.std.specs.Prelude.{◌≡◌, ℕ, List, Option, Some, None, if◌then◌else◌, position, slice_get}
use Rattle.std.specs.Map.{lookup}
use Rattle.std.specs.Str.{bytes_eq}

-- each name has as its number where it first is; a name that isn't among them may have any number or none
abbrev pub AreNumbered : List (List ℕ) → List (List ℕ × ℕ) → Type 0
AreNumbered names numbers = (name : List ℕ) (k : ℕ) → position (λ n. bytes_eq n name) names ≡ Some k → lookup (bytes_eq name) numbers ≡ Some k

-- the number, where this is the name at it
abbrev pub there : List ℕ → ℕ → Option (List ℕ) → Option ℕ
there name number None = None
there name number (Some n) = if bytes_eq n name then Some number else None

-- the number, where it is the name's
abbrev pub number_at : List (List ℕ) → Option ℕ → List ℕ → Option ℕ
number_at names None name = None
number_at names (Some number) name = there name number (slice_get names number)
