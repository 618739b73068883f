-- What a tracker keeps beside the counts.
use Rattle.std.specs.Prelude.{◌≡◌, ℕ, ◌+◌, ◌-◌, ◌*◌, ◌<◌, ◌≤◌, Bool, true, false, ◌&&◌, List, [], ◌∷◌, length, map, nat_eq, slice_index, slice_index_or, slice_set, sum_by}
use Rattle.dt_base.specs.Ranges.{below}
use Rattle.dt_tracker.specs.Tracks.{IsLawful, followers_in, has_left}

-- 1 for what is true
abbrev pub one_if : Bool → ℕ
one_if true = 1
one_if false = 0

-- how often a number is in a list
abbrev pub times_in : List ℕ → ℕ → ℕ
times_in [] b = 0
times_in (x ∷ xs) b = one_if (nat_eq b x) + times_in xs b

-- how many events lead from an operation to b, none where it is finished
abbrev pub times_from : List ℕ → List ℕ → List (List ℕ) → ℕ → ℕ → ℕ
times_from units done rows b a = one_if (has_left units done a) * times_in (slice_index_or rows a []) b

-- how many events lead from unfinished operations to b
abbrev pub waiting_of : List ℕ → List ℕ → List (List ℕ) → ℕ → ℕ
waiting_of units done rows b = sum_by (times_from units done rows b) (below (length units))

-- whether an operation has a unit left and waits for none
abbrev pub is_ready : List ℕ → List ℕ → List ℕ → ℕ → Bool
is_ready units done waiting b = has_left units done b && nat_eq (slice_index waiting b) 0

-- each flag says whether its operation is ready
abbrev pub AreReady : List ℕ → List ℕ → List ℕ → List Bool → Type 0
AreReady units done waiting flags = (b : ℕ) → b < length waiting → slice_index_or flags b false ≡ is_ready units done waiting b

-- for each operation how many of these events lead to it from operations with a unit left
abbrev pub IsWaiting : List ℕ → List ℕ → List (ℕ × ℕ) → List ℕ → Type 0
IsWaiting units done events waiting =
    (length waiting ≡ length units)
    × ((b : ℕ) → b < length units → slice_index waiting b ≡ waiting_of units done (map (followers_in events) (below (length units))) b)

-- each of these waits for one less
abbrev pub fewer : List ℕ → List ℕ → List ℕ
fewer [] waiting = waiting
fewer (b ∷ row) waiting = fewer row (slice_set waiting b (slice_index waiting b - 1))

-- each of these exists and waits for something when its turn comes
abbrev pub CanRelease : List ℕ → List ℕ → Type 0
CanRelease [] waiting = Unit {0}
CanRelease (b ∷ row) waiting = (b < length waiting) × (0 < slice_index waiting b) × CanRelease row (slice_set waiting b (slice_index waiting b - 1))

-- The rows and counts fit one another.
pub record IsTracked (units done : List ℕ) (rows : List (List ℕ)) (waiting : List ℕ) (flags : List Bool) : Type 0 where
  pub lawful : IsLawful (record { units = units; followers = rows; done = done })
  pub some_rows : length rows ≡ length units
  pub counted : length waiting ≡ length units
  pub flagged : length flags ≡ length units
  pub waits : (b : ℕ) → b < length units → slice_index waiting b ≡ waiting_of units done rows b
  pub ready : AreReady units done waiting flags

-- No operation before this one has a unit left, and this one has, where it exists.
pub record IsFirst (units done : List ℕ) (first : ℕ) : Type 0 where
  pub most : first ≤ length units
  pub before : (a : ℕ) → a < first → has_left units done a ≡ false
  pub here : first < length units → has_left units done first ≡ true

-- What a tracker keeps.
pub record IsKept (units done : List ℕ) (rows : List (List ℕ)) (waiting : List ℕ) (flags : List Bool) (first : ℕ) : Type 0 where
  pub tracked : IsTracked units done rows waiting flags
  pub least : IsFirst units done first
