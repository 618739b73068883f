-- The laws of the argument.
use Rattle.std.specs.Prelude.{◌≡◌, ◌⊎◌, ◌↔◌, ℕ, suc, ◌<◌, Bool, true, ◌&&◌, List, [], ◌∷◌, ◌++◌, length, Some, is_some, nat_lt}
use Rattle.dt_argument.specs.Frames.{Mode, StateOf, IsFramed, AreApart, AreAlike}
use Rattle.dt_argument.specs.Events.{Chain, nearest, events_among, is_listed}
use Rattle.dt_argument.specs.Facts.{HasFrames, IsOrdered}
use Rattle.dt_argument.specs.Listings.{Listing, state_at, turn_of}
use Rattle.dt_argument.specs.Orders.{AreCounts, IsEnabled, IsAllowed, IsComplete, counts_of, one_more, total, run_along, listing_order}

-- The list of the events has exactly the pairs that conflict with none between them that conflicts with both.
abbrev pub EventsAreNearest : Type 0
EventsAreNearest = (conflict : ℕ → ℕ → Bool) (count a b : ℕ) → is_listed (events_among conflict count) a b ≡ (nat_lt a b && (nat_lt b count && nearest conflict a b))

-- Each conflicting pair is joined by a chain of events.
abbrev pub ConflictsAreJoined : Type 0
ConflictsAreJoined = (conflict : ℕ → ℕ → Bool) (a b : ℕ) → a < b → conflict a b ≡ true → Chain (nearest conflict) a b

-- The same of the events as a list.
abbrev pub ListedEventsJoin : Type 0
ListedEventsJoin = (conflict : ℕ → ℕ → Bool) (count a b : ℕ) → a < b → b < count → conflict a b ≡ true → Chain (is_listed (events_among conflict count)) a b

-- Two units whose operations meet at no cell commute, and each is defined before the other exactly where it is after it.
abbrev pub FramedUnitsCommute : Type 0 → Type 0
FramedUnitsCommute C =
    (m n : C → Mode) (can_a can_b : StateOf C → Bool) (a b : StateOf C → StateOf C) → IsFramed m can_a a → IsFramed n can_b b → AreApart m n
    → (s : StateOf C) → (b (a s) ≡ a (b s)) × (can_b s ≡ can_b (a s))

-- A unit that may come next is defined, and makes of the state by counts that with one more unit of its operation.
abbrev pub NewUnitMovesBack : Type 0 → Type 0
NewUnitMovesBack C =
    (l : Listing C) → HasFrames l → IsOrdered l → (done : ℕ → ℕ) → AreCounts l done → (b : ℕ) → IsEnabled l done b
    → (l.can b (suc (done b)) (state_at l done) ≡ true) × (l.next b (suc (done b)) (state_at l done) ≡ state_at l (one_more done b)) × AreCounts l (one_more done b)

-- Every allowed list, of any length, is defined at every unit, and leaves the state that its counts name.
abbrev pub EveryOrderIsDefined : Type 0 → Type 0
EveryOrderIsDefined C = (l : Listing C) → HasFrames l → IsOrdered l → (u : List ℕ) → IsAllowed l u → run_along l u ≡ Some (state_at l (counts_of u))

-- Two allowed lists with equal counts end in one state.
abbrev pub CountsDecideTheState : Type 0 → Type 0
CountsDecideTheState C =
    (l : Listing C) → HasFrames l → IsOrdered l → (u v : List ℕ) → IsAllowed l u → IsAllowed l v → ((a : ℕ) → a < l.count → counts_of u a ≡ counts_of v a)
    → run_along l u ≡ run_along l v

-- A complete allowed list ends in the state in which the order of the list ends.
abbrev pub OrdersEndAsTheListing : Type 0 → Type 0
OrdersEndAsTheListing C =
    (l : Listing C) → HasFrames l → IsOrdered l → (u : List ℕ) → IsAllowed l u → IsComplete l (counts_of u) → run_along l u ≡ run_along l (listing_order l)

-- The order of the list is allowed and complete.
abbrev pub TheListingIsAnOrder : Type 0 → Type 0
TheListingIsAnOrder C = (l : Listing C) → IsAllowed l (listing_order l) × IsComplete l (counts_of (listing_order l))

-- The run in that order is defined exactly where each unit is defined at its turn, and then ends in the state after all units.
abbrev pub TheListingRunsInTurn : Type 0 → Type 0
TheListingRunsInTurn C =
    (l : Listing C)
    → ((is_some (run_along l (listing_order l)) ≡ true) ↔ ((a k : ℕ) → a < l.count → k < l.units a → l.can a (suc k) (turn_of l a k) ≡ true))
    × (is_some (run_along l (listing_order l)) ≡ true → run_along l (listing_order l) ≡ Some (state_at l l.units))

-- At the turn of a unit the state looks to its operation as it does at that unit's turn in the list: what it reads or writes is the same.
abbrev pub TurnsAreAlike : Type 0 → Type 0
TurnsAreAlike C =
    (l : Listing C) → HasFrames l → IsOrdered l → (done : ℕ → ℕ) → AreCounts l done → (b : ℕ) → IsEnabled l done b → AreAlike (l.mode b) (state_at l done) (turn_of l b (done b))

-- So it is at each turn of every allowed list.
abbrev pub OrdersTurnAsTheListing : Type 0 → Type 0
OrdersTurnAsTheListing C =
    (l : Listing C) → HasFrames l → IsOrdered l → (u : List ℕ) → IsAllowed l u → (b : ℕ) → IsEnabled l (counts_of u) b
    → (s : StateOf C) → run_along l u ≡ Some s → AreAlike (l.mode b) s (turn_of l b (counts_of u b))

-- A list that goes on by one unit is allowed exactly where the list before is and the unit is enabled, and counts one unit more.
abbrev pub OrdersGoOn : Type 0 → Type 0
OrdersGoOn C =
    (l : Listing C) (u : List ℕ) (b : ℕ) → (IsAllowed l (u ++ b ∷ []) ↔ (IsAllowed l u × IsEnabled l (counts_of u) b)) × (counts_of (u ++ b ∷ []) ≡ one_more (counts_of u) b)

-- After each allowed list no operation has more units done than it has, and each that has begun has its predecessors finished.
abbrev pub OrdersKeepCounts : Type 0 → Type 0
OrdersKeepCounts C = (l : Listing C) (u : List ℕ) → IsAllowed l u → AreCounts l (counts_of u)

-- While a unit is left, the least unfinished operation is enabled.
abbrev pub NeverStuck : Type 0 → Type 0
NeverStuck C =
    (l : Listing C) (done : ℕ → ℕ) → AreCounts l done → IsComplete l done ⊎ ((b : ℕ) × IsEnabled l done b × ((a : ℕ) → a < b → done a ≡ l.units a))

-- An allowed list of as many units as there are is complete.
abbrev pub LongOrdersAreComplete : Type 0 → Type 0
LongOrdersAreComplete C =
    (l : Listing C) (u : List ℕ) → IsAllowed l u → length u ≡ total l.count l.units → IsComplete l (counts_of u)
