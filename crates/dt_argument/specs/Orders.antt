-- Orders: lists of operation numbers, one for each unit, which the events allow; and what they make of the opening state.
use Rattle.std.specs.Prelude.{◌≡◌, ℕ, zero, suc, ◌+◌, ◌<◌, ◌≤◌, List, [], ◌∷◌, ◌++◌, Option, Some, None, nat_eq, if◌then◌else◌}
use Rattle.dt_argument.specs.Frames.{StateOf}
use Rattle.dt_argument.specs.Events.{IsEvent}
use Rattle.dt_argument.specs.Listings.{Listing}

-- the counts at the start
abbrev pub none_done : ℕ → ℕ
none_done a = 0

-- the counts with one more unit of b
abbrev pub one_more : (ℕ → ℕ) → ℕ → ℕ → ℕ
one_more done b a = if nat_eq a b then suc (done a) else done a

-- the counts after more units
abbrev pub counts_from : (ℕ → ℕ) → List ℕ → ℕ → ℕ
counts_from done [] = done
counts_from done (b ∷ u) = counts_from (one_more done b) u

-- how many units of each operation a list has
abbrev pub counts_of : List ℕ → ℕ → ℕ
counts_of u = counts_from none_done u

-- the units of the first n operations
abbrev pub total : ℕ → (ℕ → ℕ) → ℕ
total zero done = 0
total (suc n) done = done n + total n done

-- no operation has more units done than it has, and each that has begun has its event predecessors finished
pub record AreCounts {C : Type 0} (l : Listing C) (done : ℕ → ℕ) : Type 0 where
  pub within : (a : ℕ) → a < l.count → done a ≤ l.units a
  pub begun : (a b : ℕ) → b < l.count → IsEvent l.event a b → 0 < done b → done a ≡ l.units a

-- the operation exists, has a unit left, and has its event predecessors finished
pub record IsEnabled {C : Type 0} (l : Listing C) (done : ℕ → ℕ) (b : ℕ) : Type 0 where
  pub exists : b < l.count
  pub left : done b < l.units b
  pub waited : (a : ℕ) → IsEvent l.event a b → done a ≡ l.units a

-- from these counts on, each operation of a list is enabled at its place
abbrev pub IsAllowedFrom : {C : Type 0} → Listing C → (ℕ → ℕ) → List ℕ → Type 0
IsAllowedFrom l done [] = Unit {0}
IsAllowedFrom l done (b ∷ u) = IsEnabled l done b × IsAllowedFrom l (one_more done b) u

-- a list of units that the events allow
abbrev pub IsAllowed : {C : Type 0} → Listing C → List ℕ → Type 0
IsAllowed l u = IsAllowedFrom l none_done u

-- no operation has a unit left
abbrev pub IsComplete : {C : Type 0} → Listing C → (ℕ → ℕ) → Type 0
IsComplete l done = (a : ℕ) → a < l.count → done a ≡ l.units a

-- one unit, where the state defines it
abbrev pub unit : {C : Type 0} → Listing C → ℕ → ℕ → StateOf C → Option (StateOf C)
unit l a k s = if l.can a k s then Some (l.next a k s) else None

-- the state after more units, or none where one of them is undefined
abbrev pub run_from : {C : Type 0} → Listing C → (ℕ → ℕ) → Option (StateOf C) → List ℕ → Option (StateOf C)
run_from l done None u = None
run_from l done (Some s) [] = Some s
run_from l done (Some s) (b ∷ u) = run_from l (one_more done b) (unit l b (suc (done b)) s) u

-- the state after the units of a list, from the opening on
abbrev pub run_along : {C : Type 0} → Listing C → List ℕ → Option (StateOf C)
run_along l u = run_from l none_done (Some l.opening) u

-- k units of one operation
abbrev pub times : ℕ → ℕ → List ℕ
times zero a = []
times (suc k) a = a ∷ times k a

-- the units of the first n operations, operation by operation
abbrev pub in_turn : {C : Type 0} → Listing C → ℕ → List ℕ
in_turn l zero = []
in_turn l (suc n) = in_turn l n ++ times (l.units n) n

-- the order of the list itself
abbrev pub listing_order : {C : Type 0} → Listing C → List ℕ
listing_order l = in_turn l l.count
