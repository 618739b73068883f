-- The laws of cursors.
use Rattle.std.specs.Prelude.{◌≡◌, ℕ, Bool, true, false, List, [], ◌∷◌}
use Rattle.dt_order.specs.declared.orders.Order.{Order}
use Rattle.dt_tracker.specs.declared.step.Step.TheVariants as step
use Rattle.dt_tracker.specs.Tracks.{IsLawful, Track, answer_of, taken}
use Rattle.dt_cursor.specs.declared.next.Next.{Next}
use Rattle.dt_cursor.specs.declared.next.Next.TheVariants as next
use Rattle.dt_cursor.specs.declared.spots.Spot.{Spot}
use Rattle.dt_cursor.specs.Asked.{CursorView, asked_at, asked_of, fresh_cursor, is_unit, settled, stepped, track_after}

-- a cursor that has answered these units, each of which was done
abbrev pub cursor_after : Track → CursorView → List ℕ → CursorView
cursor_after t c [] = c
cursor_after t c (b ∷ u) = cursor_after (taken t b) (stepped c t (next.Unit b)) u

-- what a cursor answers
abbrev pub answer_at : CursorView → Track → Next
answer_at c t = asked_at c.order t (settled c.order t c.spot c.due)

-- After any units a cursor answers what its order asks for after them.
abbrev pub CursorsFollowOrders : Type 0
CursorsFollowOrders = (o : Order) (t : Track) (u : List ℕ) → answer_at (cursor_after t (fresh_cursor o) u) (track_after t u) ≡ asked_of o t u

-- An answer that is no unit stays.
abbrev pub AnswersStay : Type 0
AnswersStay = (c : CursorView) (t : Track) → is_unit (answer_at c t) ≡ false → answer_at (stepped c t (answer_at c t)) t ≡ answer_at c t

-- A unit that is asked for may go on.
abbrev pub UnitsAreAllowed : Type 0
UnitsAreAllowed = (o : Order) (t : Track) (s : Spot) (p : ℕ) → IsLawful t → asked_at o t s ≡ next.Unit p → answer_of t p ≡ step.Stepped
