-- Laws of the listing of a job: it is defined at every unit, and what it leaves.
use Rattle.std.specs.Prelude.{◌≡◌, ℕ, suc, ◌<◌, true, List, length, Some}
use Rattle.std.specs.List.{AllByRecursion}
use Rattle.dt_nest.specs.Meaning.{Entries}
use Rattle.dt_argument.specs.Facts.{IsOrdered}
use Rattle.dt_argument.specs.Listings.{turn_of}
use Rattle.dt_argument.specs.Orders.{IsAllowed, IsEnabled, IsComplete, counts_of, listing_order}
use Rattle.dt_plan.specs.Layouts.{Layout}
use Rattle.dt_plan.specs.ListingLaws.{IsLayout}
use Rattle.dt_plan.specs.Operations.{ops_of, units_of}
use Rattle.dt_events.specs.Units.{can_do}
use Rattle.dt_events.specs.Jobs.{op_at, state_of, listing_of, run_of, at_of}
use Rattle.dt_events.specs.StateLaws.{AreRunnable}
use Rattle.dt_events.specs.Placed.{IsPlaced, CanRun, AreNumbers, numbers_after_all}

-- what is asked of a layout so that its listing runs
pub record IsReady (l : Layout) : Type 0 where
  pub layout : IsLayout l
  pub runnable : AreRunnable l
  pub placed : IsPlaced l
  pub parts : AllByRecursion (CanRun l) l.parts

-- The listing is defined at every unit. Where the homes have some numbers at the opening it leaves the homes with the numbers after
-- all parts, on every node, and nothing else.
abbrev pub ListingsRun : Type 0
ListingsRun = (l : Layout) → IsReady l → (x : Entries) → AreNumbers l x → run_of l x (listing_order (listing_of l x)) ≡ Some (state_of l (numbers_after_all l.stored l.parts x))

-- Each unit finds what it asks for at its turn: each word that a task reads is held there.
abbrev pub TurnsAreDefined : Type 0
TurnsAreDefined =
    (l : Layout) → IsReady l → (x : Entries) → AreNumbers l x → (a i : ℕ) → a < length (ops_of l) → i < units_of l (op_at (ops_of l) a)
    → can_do l (op_at (ops_of l) a) (suc i) (turn_of (listing_of l x) a i) ≡ true

-- So the job's list owes the argument nothing.
abbrev pub ReadyListsAreOrdered : Type 0
ReadyListsAreOrdered = (l : Layout) → IsReady l → (x : Entries) → AreNumbers l x → IsOrdered (listing_of l x)

-- Every allowed list of units, complete or not, is defined at every unit, and its counts alone decide the state.
abbrev pub AllowedListsRun : Type 0
AllowedListsRun = (l : Layout) → IsReady l → (x : Entries) → AreNumbers l x → (u : List ℕ) → IsAllowed (listing_of l x) u → run_of l x u ≡ Some (at_of l x (counts_of u))

-- At each turn of such a list the next unit is defined: what it reads is held there.
abbrev pub AllowedTurnsAreDefined : Type 0
AllowedTurnsAreDefined =
    (l : Layout) → IsReady l → (x : Entries) → AreNumbers l x → (u : List ℕ) → IsAllowed (listing_of l x) u → (b : ℕ) → IsEnabled (listing_of l x) (counts_of u) b
    → can_do l (op_at (ops_of l) b) (suc (counts_of u b)) (at_of l x (counts_of u)) ≡ true

-- A complete one leaves the homes with the numbers after all parts.
abbrev pub CompleteListsLeaveTheNumbers : Type 0
CompleteListsLeaveTheNumbers =
    (l : Layout) → IsReady l → (x : Entries) → AreNumbers l x → (u : List ℕ) → IsAllowed (listing_of l x) u → IsComplete (listing_of l x) (counts_of u)
    → run_of l x u ≡ Some (state_of l (numbers_after_all l.stored l.parts x))
