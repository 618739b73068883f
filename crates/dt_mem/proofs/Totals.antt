-- The two running numbers of a memory, when one buffer changes.
use Rattle.std.proofs.Common.{◌≡◌, ℕ, zero, suc, ◌+◌, ◌*◌, ◌≤◌, List, [], ◌∷◌, Option, Some, None, drop, take, slice_get, refl, arith, Bor}
use Rattle.std.specs.Prelude.{sum_by}
use Rattle.std.proofs.lemmas.List.Sums.{sum_by-cons}
use Rattle.std.proofs.Math.Nat.{mul-le-mul_left, mul_comm}
use Rattle.dt_mem.specs.declared.rooms.Room.{Room}
use Rattle.dt_mem.specs.Memory.{Slot, changed, count_in, live_of}
use Rattle.dt_mem.specs.Rooms.{IsLaid, count_of, held_in, slot_in, slots_of}
use Rattle.dt_mem.proofs.RoomLemmas.{some_is}

-- a sum over buffers, one of which changes
pub sum-changed : (g : Slot → ℕ) (f : Slot → Slot) (m : List Slot) (b : ℕ) (s : Slot) → slice_get m b ≡ Some s → sum_by g (changed f b m) + g s ≡ sum_by g m + g (f s)
sum-changed g f [] b s h = cc
sum-changed g f (t ∷ m) zero s h =
    let same : t ≡ s = some_is h in
    let left = sum_by-cons g (f t) m in
    let right = sum_by-cons g t m in
    rw (← same) (omega (arith, left, right))
sum-changed g f (t ∷ m) (suc b) s h =
    let rest = sum-changed g f m b s h in
    let left = sum_by-cons g t (changed f b m) in
    let right = sum_by-cons g t m in
    omega (arith, rest, left, right)

pub count_in-held_in : (o : Option (Bor (List ℕ))) (part : List ℕ) → count_in (held_in o part) ≡ count_of o
count_in-held_in None part = refl
count_in-held_in (Some w) part = refl

most_in : (cost count room : ℕ) → count ≤ room → cost * count ≤ room * cost
most_in cost count room h = let more = mul-le-mul_left cost h in let turned : cost * room ≡ room * cost = mul_comm cost room in omega (arith, more, turned)

-- what is live costs no more than all rooms
pub live_most : (at : ℕ) (rs : List Room) (values : List ℕ) → IsLaid at rs → live_of (slots_of rs values) ≤ sum_by (λ (r : Room). r.room * r.cost) rs
live_most at [] values l = omega arith
live_most at (r ∷ rs) values l =
    let rest = live_most (at + r.room) rs (drop r.room values) l.2 in
    let left = sum_by-cons (λ (s : Slot). s.cost * count_in s.held) (slot_in r (take r.room values)) (slots_of rs (drop r.room values)) in
    let right = sum_by-cons (λ (q : Room). q.room * q.cost) r rs in
    let here : r.cost * count_in (held_in r.words (take r.room values)) ≤ r.room * r.cost = rw (count_in-held_in r.words (take r.room values)) (most_in r.cost (count_of r.words) r.room l.1) in
    omega (arith, rest, left, right, here)
