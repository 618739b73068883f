-- The coordinates that a walked loop's prefix has, put into an array.
use Rattle.std.specs.Prelude.{◌≡◌, ℕ, ◌≤◌, List, length, take, drop, Option, Some, None}

-- what was put into an array from a place on
abbrev pub FilledBy : Option (List ℕ) → ℕ → List ℕ → List ℕ → Option ℕ → Type 0
FilledBy list at old new None = list ≡ None
FilledBy list at old new (Some n) = (n ≤ length new) × (at ≤ n) × (list ≡ Some (drop at (take n new))) × (take at new ≡ take at old)

-- The numbers of a list were put into an array from a place on, up to the place that was found, or there is no list.
pub record Filled (list : Option (List ℕ)) (at : ℕ) (old new : List ℕ) (found : Option ℕ) : Type 0 where
  pub fills : FilledBy list at old new found
