-- Operations with their units and events, and how many units of each are done.
use Rattle.std.specs.Prelude.{◌≡◌, ℕ, ◌+◌, ◌<◌, ◌≤◌, Bool, true, false, not, ◌&&◌, List, [], length, map, filter, Option, Some, None, if◌then◌else◌, is_some, nat_eq, nat_lt, replicate, slice_index, slice_index_or, slice_set}
use Rattle.std.specs.List.{find, list_any}
use Rattle.dt_base.specs.Ranges.{below}
use Rattle.dt_tracker.specs.declared.step.Step.{Step}
use Rattle.dt_tracker.specs.declared.step.Step.TheVariants.{Stepped, Unknown, Waits, Finished}

-- the units of each operation, those to which events lead from it, and how many of its units are done
pub record Track : Type 0 where
  pub units : List ℕ
  pub followers : List (List ℕ)
  pub done : List ℕ

-- whether an event leads from a to b
abbrev pub follows : List (List ℕ) → ℕ → ℕ → Bool
follows followers a b = list_any (nat_eq b) (slice_index_or followers a [])

-- the operations to which events lead from this one, in the order of the events
abbrev pub followers_in : List (ℕ × ℕ) → ℕ → List ℕ
followers_in events a = map (λ (e : ℕ × ℕ). e.1) (filter (λ (e : ℕ × ℕ). nat_eq e.0 a) events)

-- whether an operation has a unit left
abbrev pub has_left : List ℕ → List ℕ → ℕ → Bool
has_left units done a = nat_lt (slice_index done a) (slice_index units a)

-- the least operation with a unit left
abbrev pub least_left : Track → Option ℕ
least_left t = find (has_left t.units t.done) (below (length t.units))

-- whether an event leads from an unfinished operation a to b
abbrev pub holds : Track → ℕ → ℕ → Bool
holds t b a = has_left t.units t.done a && follows t.followers a b

-- the least unfinished operation from which an event leads to this one
abbrev pub waits_of : Track → ℕ → Option ℕ
waits_of t b = find (holds t b) (below (length t.units))

-- whether an operation may go on: it has a unit left and waits for none
abbrev pub is_enabled : Track → ℕ → Bool
is_enabled t b = has_left t.units t.done b && not (is_some (waits_of t b))

-- the operations that may go on, ascending
abbrev pub enabled_of : Track → List ℕ
enabled_of t = filter (is_enabled t) (below (length t.units))

-- one more unit of an operation
abbrev pub taken : Track → ℕ → Track
taken t b = record { units = t.units; followers = t.followers; done = slice_set t.done b (slice_index t.done b + 1) }

-- no unit is done
abbrev pub opening_of : List ℕ → List (ℕ × ℕ) → Track
opening_of units events = record { units = units; followers = map (followers_in events) (below (length units)); done = replicate (length units) 0 }

-- what an operation that exists answers, by what it waits for and whether it has a unit left
abbrev pub answer_by : Option ℕ → Bool → Step
answer_by (Some p) left = Waits p
answer_by None true = Stepped
answer_by None false = Finished

-- what an operation answers that is asked for a unit
abbrev pub answer_of : Track → ℕ → Step
answer_of t b = if nat_lt b (length t.units) then answer_by (waits_of t b) (has_left t.units t.done b) else Unknown

abbrev pub is_stepped : Step → Bool
is_stepped Stepped = true
is_stepped Unknown = false
is_stepped (Waits p) = false
is_stepped Finished = false

-- No operation has more units done than it has, and each that has begun has all finished from which an event leads to it. Events
-- lead to later operations alone.
pub record IsLawful (t : Track) : Type 0 where
  pub small : length t.units < 4294967296
  pub dones : length t.done ≡ length t.units
  pub ascends : (a b : ℕ) → follows t.followers a b ≡ true → (a < b) × (b < length t.units)
  pub within : (a : ℕ) → a < length t.units → slice_index t.done a ≤ slice_index t.units a
  pub begun : (a b : ℕ) → follows t.followers a b ≡ true → 0 < slice_index t.done b → slice_index t.done a ≡ slice_index t.units a
