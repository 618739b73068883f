-- What is added to the numbers of a list.
use Rattle.std.specs.Prelude.{◌≡◌, ℕ, Bool, false, ◌||◌, ◌&&◌, List, Option, Some, None, nat_lt, nat_eq}
use Rattle.dt_runs.specs.Sets.{contains}

-- whether a place is this number
abbrev pub is_at : Option ℕ → ℕ → Bool
is_at None x = false
is_at (Some place) x = nat_eq place x

-- The new list has the numbers of the old one, and those below n that pass the test.
pub record Adds (n : ℕ) (passes : ℕ → Bool) (old new : List ℕ) : Type 0 where
  pub members : (x : ℕ) → contains new x ≡ (contains old x || (nat_lt x n && passes x))
