-- Laws of the orders of a job.
use Rattle.std.specs.Prelude.{◌≡◌, ℕ, ◌<◌, true, List, length, Some, is_some}
use Rattle.dt_nest.specs.Meaning.{Entries}
use Rattle.dt_argument.specs.Frames.{AreAlike}
use Rattle.dt_argument.specs.Facts.{HasFrames, IsOrdered}
use Rattle.dt_argument.specs.Listings.{turn_of}
use Rattle.dt_argument.specs.Orders.{IsAllowed, IsEnabled, IsComplete, counts_of, listing_order}
use Rattle.dt_plan.specs.Layouts.{Layout}
use Rattle.dt_plan.specs.Operations.{ops_of}
use Rattle.dt_plan.specs.Footprints.{footprints_of}
use Rattle.dt_plan.specs.Limits.{plan_view}
use Rattle.dt_events.specs.Conflicts.{conflict}
use Rattle.dt_events.specs.State.{State, touches_at}
use Rattle.dt_events.specs.Jobs.{op_at, ops_conflict, listing_of, run_of, at_of}
use Rattle.dt_events.specs.StateLaws.{AreRunnable}

-- the run in the order of the listing is defined at every unit
abbrev pub IsListingDefined : Layout → Entries → Type 0
IsListingDefined l x = is_some (run_of l x (listing_order (listing_of l x))) ≡ true

-- Two operations of the job's list conflict where those of its plan do.
abbrev pub JobConflictsAreThePlans : Type 0
JobConflictsAreThePlans = (l : Layout) (a b : ℕ) → a < length (ops_of l) → b < length (ops_of l) → ops_conflict l (op_at (ops_of l) a) (op_at (ops_of l) b) ≡ conflict (plan_view l) a b

-- Units of the job's operations keep to their footprints, and operations without a conflict clash at no cell.
abbrev pub JobsHaveFrames : Type 0
JobsHaveFrames = (l : Layout) → AreRunnable l → (x : Entries) → HasFrames (listing_of l x)

-- Each operation has a unit, and each conflicting pair is joined by a chain of events; so what is owed beside is that the listing is
-- defined.
abbrev pub JobsAreOrdered : Type 0
JobsAreOrdered = (l : Layout) (x : Entries) → IsListingDefined l x → IsOrdered (listing_of l x)

-- Then every list of units that the events allow, of any length, is defined at every unit, and its counts alone decide the state.
abbrev pub JobOrdersAreDefined : Type 0
JobOrdersAreDefined = (l : Layout) → AreRunnable l → (x : Entries) → IsListingDefined l x → (u : List ℕ) → IsAllowed (listing_of l x) u → run_of l x u ≡ Some (at_of l x (counts_of u))

-- A complete one ends as the listing does.
abbrev pub JobOrdersEndAlike : Type 0
JobOrdersEndAlike =
    (l : Layout) → AreRunnable l → (x : Entries) → IsListingDefined l x → (u : List ℕ) → IsAllowed (listing_of l x) u → IsComplete (listing_of l x) (counts_of u)
    → run_of l x u ≡ run_of l x (listing_order (listing_of l x))

-- At the turn of a unit of operation b, what the operation reads or writes is what it is at that unit's turn in the listing.
abbrev pub JobTurnsAreAlike : Type 0
JobTurnsAreAlike =
    (l : Layout) → AreRunnable l → (x : Entries) → IsListingDefined l x → (u : List ℕ) → IsAllowed (listing_of l x) u → (b : ℕ) → IsEnabled (listing_of l x) (counts_of u) b
    → (s : State) → run_of l x u ≡ Some s → AreAlike (touches_at (footprints_of l (op_at (ops_of l) b))) s (turn_of (listing_of l x) b (counts_of u b))
