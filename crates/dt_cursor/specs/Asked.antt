-- What an order asks for after so many units.
use Rattle.std.specs.Prelude.{◌≡◌, ℕ, ◌+◌, ◌-◌, ◌*◌, ◌/◌, ◌%◌, ◌^◌, ◌<◌, Bool, true, false, ◌&&◌, List, [], ◌∷◌, length, Option, Some, None, if◌then◌else◌, nat_eq, nat_lt, slice_get, slice_index}
use Rattle.dt_order.specs.declared.orders.Entry.{Entry}
use Rattle.dt_order.specs.declared.orders.Entry.TheVariants.{Count, Range}
use Rattle.dt_order.specs.declared.orders.Order.{Order}
use Rattle.dt_order.specs.declared.orders.Order.TheVariants as order
use Rattle.dt_tracker.specs.declared.step.Step.{Step}
use Rattle.dt_tracker.specs.declared.step.Step.TheVariants as step
use Rattle.dt_tracker.specs.Tracks.{Track, answer_of, enabled_of, has_left, least_left, taken}
use Rattle.dt_cursor.specs.declared.next.Next.{Next}
use Rattle.dt_cursor.specs.declared.next.Next.TheVariants as next
use Rattle.dt_cursor.specs.declared.spots.Spot.{Spot}

-- the order has fewer than 2^32 entries
abbrev pub AreFew : Order → Type 0
AreFew order.Listing = Unit {0}
AreFew (order.Seed s) = Unit {0}
AreFew (order.Steps entries) = length entries < 4294967296

-- the state behind this one
abbrev pub next_seed : ℕ → ℕ
next_seed s = (s * 6364136223846793005 + 1442695040888963407) % 2 ^ 64

-- Where an order has come to --------------------------------------------------------------------------------------------

-- before an entry: its first operation, and its count
abbrev pub entry_spot : ℕ → ℕ → Option Entry → Spot
entry_spot s e None = record { state = s; entry = e; op = 0; count = 0 }
entry_spot s e (Some (Count k n)) = record { state = s; entry = e; op = k; count = n }
entry_spot s e (Some (Range a b)) = record { state = s; entry = e; op = a; count = 0 }

-- before the entry that has so many before it
abbrev pub at_entry : ℕ → List Entry → ℕ → Spot
at_entry s entries e = entry_spot s e (slice_get entries e)

-- before the first unit
abbrev pub start_of : Order → Spot
start_of order.Listing = at_entry 0 [] 0
start_of (order.Seed s) = at_entry s [] 0
start_of (order.Steps entries) = at_entry 0 entries 0

-- whether an operation exists and has a unit left
abbrev pub has_unit : Track → ℕ → Bool
has_unit t op = nat_lt op (length t.units) && has_left t.units t.done op

-- after one more unit of the operation that an entry asked for: a count that is used up and a range's operation without a unit
-- left are left behind
abbrev pub entry_on : List Entry → Track → Spot → Option Entry → Spot
entry_on entries t s None = s
entry_on entries t s (Some (Count k n)) =
    if nat_lt 1 s.count then record { state = s.state; entry = s.entry; op = s.op; count = s.count - 1 } else at_entry s.state entries (s.entry + 1)
entry_on entries t s (Some (Range a b)) =
    if has_unit t s.op then s
    else if nat_lt s.op b then record { state = s.state; entry = s.entry; op = s.op + 1; count = s.count }
    else at_entry s.state entries (s.entry + 1)

abbrev pub steps_on : List Entry → Track → Spot → Spot
steps_on entries t s = entry_on entries t s (slice_get entries s.entry)

-- after one more unit of the operation that an order asked for
abbrev pub gone_on : Order → Track → Spot → Spot
gone_on order.Listing t s = s
gone_on (order.Seed n) t s = record { state = next_seed s.state; entry = s.entry; op = s.op; count = s.count }
gone_on (order.Steps entries) t s = steps_on entries t s

-- What it asks for ------------------------------------------------------------------------------------------------------

-- the least operation with a unit left
abbrev pub listing_next : Option ℕ → Next
listing_next None = next.End
listing_next (Some p) = next.Unit p

-- of the operations that may go on the one that a state draws
abbrev pub seed_next : Track → ℕ → Next
seed_next t s =
    if nat_eq (length (enabled_of t)) 0 then next.End else next.Unit (slice_index (enabled_of t) (next_seed s / 2 ^ 33 % length (enabled_of t)))

-- a unit of an entry's operation, or what the operation answers
abbrev pub step_next : ℕ → ℕ → Step → Next
step_next e op step.Stepped = next.Unit op
step_next e op step.Unknown = next.Refused e step.Unknown
step_next e op (step.Waits p) = next.Refused e (step.Waits p)
step_next e op step.Finished = next.Refused e step.Finished

-- behind the last entry
abbrev pub behind_next : Option ℕ → Next
behind_next None = next.End
behind_next (Some p) = next.Short p

abbrev pub steps_next : List Entry → Track → Spot → Next
steps_next entries t s = if nat_lt s.entry (length entries) then step_next (s.entry + 1) s.op (answer_of t s.op) else behind_next (least_left t)

-- what an order asks for that has come to a spot
abbrev pub asked_at : Order → Track → Spot → Next
asked_at order.Listing t s = listing_next (least_left t)
asked_at (order.Seed n) t s = seed_next t s.state
asked_at (order.Steps entries) t s = steps_next entries t s

-- the track after more units
abbrev pub track_after : Track → List ℕ → Track
track_after t [] = t
track_after t (b ∷ u) = track_after (taken t b) u

-- the spot after more units
abbrev pub spot_after : Order → Track → Spot → List ℕ → Spot
spot_after o t s [] = s
spot_after o t s (b ∷ u) = spot_after o (taken t b) (gone_on o (taken t b) s) u

-- what an order asks for after these units
abbrev pub asked_of : Order → Track → List ℕ → Next
asked_of o t u = asked_at o (track_after t u) (spot_after o t (start_of o) u)

-- Cursors ---------------------------------------------------------------------------------------------------------------

-- an order, where it had come to at the last answer, whether that was a unit, and the operation that was asked for
pub record CursorView : Type 0 where
  pub order : Order
  pub spot : Spot
  pub due : Bool
  pub asked : ℕ

abbrev pub fresh_cursor : Order → CursorView
fresh_cursor o = record { order = o; spot = start_of o; due = false; asked = 0 }

-- where an order has come to, where the unit that it asked for was done
abbrev pub settled : Order → Track → Spot → Bool → Spot
settled o t s true = gone_on o t s
settled o t s false = s

abbrev pub is_unit : Next → Bool
is_unit (next.Unit p) = true
is_unit (next.Refused e s) = false
is_unit (next.Short p) = false
is_unit next.End = false

-- the operation that is asked for, 0 where none is
abbrev pub op_of : Next → Spot → ℕ
op_of (next.Unit p) s = p
op_of (next.Refused e answer) s = s.op
op_of (next.Short p) s = 0
op_of next.End s = 0

-- a cursor after an answer
abbrev pub stepped : CursorView → Track → Next → CursorView
stepped c t answer = record {
  order = c.order;
  spot = settled c.order t c.spot c.due;
  due = is_unit answer;
  asked = op_of answer (settled c.order t c.spot c.due);
}
