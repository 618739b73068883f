-- Why the laws of cursors hold.
use Rattle.std.proofs.Common.{◌≡◌, ℕ, ◌+◌, ◌/◌, ◌%◌, ◌^◌, ◌<◌, Bool, true, false, cond, nat_eq, nat_lt, List, [], ◌∷◌, length, slice_index, Option, Some, None, refl, ap, sym, ◌∙◌, subst, arith}
use Rattle.std.proofs.lemmas.Bool.Decides.{nat_tests}
use Rattle.std.proofs.Math.Nat.{mod-lt}
use Rattle.dt_order.specs.declared.orders.Order.{Order}
use Rattle.dt_order.specs.declared.orders.Order.TheVariants as order
use Rattle.dt_tracker.specs.declared.step.Step.{Step}
use Rattle.dt_tracker.specs.declared.step.Step.TheVariants as step
use Rattle.dt_tracker.specs.Tracks.{IsLawful, Track, answer_of, enabled_of, least_left, taken}
use Rattle.dt_tracker.proofs.LawProofs.{enabled_pass, least_goes_on, steps_if}
use Rattle.dt_cursor.specs.declared.next.Next.{Next}
use Rattle.dt_cursor.specs.declared.next.Next.TheVariants as next
use Rattle.dt_cursor.specs.declared.spots.Spot.{Spot}
use Rattle.dt_cursor.specs.Asked.{CursorView, asked_at, behind_next, listing_next, next_seed, seed_next, settled, spot_after, step_next, steps_next, stepped, track_after}
use Rattle.dt_cursor.specs.CursorLaws.{UnitsAreAllowed, answer_at, cursor_after}

-- a cursor goes on as its spot does
pub follow : (t : Track) (c : CursorView) (u : List ℕ)
    → answer_at (cursor_after t c u) (track_after t u) ≡ asked_at c.order (track_after t u) (spot_after c.order t (settled c.order t c.spot c.due) u)
follow t c [] = refl
follow t c (b ∷ u) = follow (taken t b) (stepped c t (next.Unit b)) u

unit_is : (x y : ℕ) → next.Unit x ≡ next.Unit y → x ≡ y
unit_is x y e = cc

step_allowed : (e op p : ℕ) (s : Step) → step_next e op s ≡ next.Unit p → (s ≡ step.Stepped) × (op ≡ p)
step_allowed e op p step.Stepped h = (refl, unit_is op p h)
step_allowed e op p step.Unknown h = absurd (cc)
step_allowed e op p (step.Waits q) h = absurd (cc)
step_allowed e op p step.Finished h = absurd (cc)

listed_allowed : (t : Track) (p : ℕ) (o : Option ℕ) → IsLawful t → least_left t ≡ o → listing_next o ≡ next.Unit p → answer_of t p ≡ step.Stepped
listed_allowed t p None k e h = absurd (cc)
listed_allowed t p (Some q) k e h =
    subst (λ (x : ℕ). answer_of t x ≡ step.Stepped) (unit_is q p h) ((steps_if t q).1 (least_goes_on t q k e))

some_of : (n : ℕ) → nat_eq n 0 ≡ false → 0 < n
some_of n e = grind (arith, nat_tests)

drawn_allowed : (t : Track) (p k : ℕ) (c : Bool) → nat_eq (length (enabled_of t)) 0 ≡ c
    → cond c next.End (next.Unit (slice_index (enabled_of t) (k % length (enabled_of t)))) ≡ next.Unit p → answer_of t p ≡ step.Stepped
drawn_allowed t p k true e h = absurd (cc)
drawn_allowed t p k false e h =
    let near : k % length (enabled_of t) < length (enabled_of t) = mod-lt k (some_of (length (enabled_of t)) e) in
    subst (λ (x : ℕ). answer_of t x ≡ step.Stepped) (unit_is (slice_index (enabled_of t) (k % length (enabled_of t))) p h)
    ((steps_if t (slice_index (enabled_of t) (k % length (enabled_of t)))).1 (enabled_pass t (k % length (enabled_of t)) near))

behind_allowed : (t : Track) (p : ℕ) (o : Option ℕ) → behind_next o ≡ next.Unit p → answer_of t p ≡ step.Stepped
behind_allowed t p None h = absurd (cc)
behind_allowed t p (Some q) h = absurd (cc)

entry_allowed : (t : Track) (s : Spot) (p : ℕ) (c : Bool) → cond c (step_next (s.entry + 1) s.op (answer_of t s.op)) (behind_next (least_left t)) ≡ next.Unit p → answer_of t p ≡ step.Stepped
entry_allowed t s p true h =
    let parts = step_allowed (s.entry + 1) s.op p (answer_of t s.op) h in
    subst (λ (x : ℕ). answer_of t x ≡ step.Stepped) parts.1 parts.0
entry_allowed t s p false h = behind_allowed t p (least_left t) h

pub allowed : UnitsAreAllowed
allowed order.Listing t s p k h = listed_allowed t p (least_left t) k refl h
allowed (order.Seed n) t s p k h = drawn_allowed t p (next_seed s.state / 2 ^ 33) (nat_eq (length (enabled_of t)) 0) refl h
allowed (order.Steps entries) t s p k h = entry_allowed t s p (nat_lt s.entry (length entries)) h
