-- Buffers in rooms, when a value or the words of one room change.
use Rattle.std.proofs.Common.{◌≡◌, ℕ, zero, suc, ◌+◌, ◌<◌, ◌≤◌, List, [], ◌∷◌, ◌++◌, length, Option, Some, None, drop, take, replicate, get_or, slice_get, slice_set, ◌==◌, refl, sym, ap, ap₂, ◌∙◌, arith, Bor}
use Rattle.std.specs.Prelude.{option_map, option_and_then, sum_by}
use Rattle.std.proofs.lemmas.List.{append_assoc, drop-append-le, drop-drop, drop-set-add, drop-set-lt, drop-take, length-drop, length-replicate, length-take-le, take-append-le, take-replicate, take-set-le, take-take}
use Rattle.std.proofs.lemmas.List.Sums.{sum_by-cons}
use Rattle.std.proofs.lemmas.Slice.{drop-append-drop}
use Rattle.std.proofs.Math.Seq.{take-set-lt}
use Rattle.dt_mem.specs.declared.rooms.Room.{Room}
use Rattle.std.proofs.lemmas.Option.{slice_get-get_or}
use Rattle.std.proofs.lemmas.List.Quantifiers.{position-Some}
use Rattle.dt_mem.specs.Memory.{Held, Slot, changed, ended, opened, place_of, with_held}
use Rattle.dt_mem.specs.Rooms.{IsLaid, before, capacity, cleared, count_of, held_in, place_at, place_in, slot_in, slots_of}

pub some_is : {A : Type 0} {x y : A} → Some x ≡ Some y → x ≡ y
some_is e = cc

-- the buffer of a room, with the values of its room
pub slot_get : (rs : List Room) (values : List ℕ) (b : ℕ) (r : Room) → slice_get rs b ≡ Some r → slice_get (slots_of rs values) b ≡ Some (slot_in r (take r.room (drop (before rs b) values)))
slot_get [] values b r h = cc
slot_get (q ∷ rs) values zero r h = let e : q ≡ r = some_is h in rw e refl
slot_get (q ∷ rs) values (suc b) r h =
    slot_get rs (drop q.room values) b r h
    ∙ ap (λ (part : List ℕ). Some (slot_in r (take r.room part))) (drop-drop (before rs b) q.room values)

abbrev slot_by : ℕ → ℕ → Option Held → Slot
slot_by room cost held = record { room = room; cost = cost; held = held }

-- a held buffer with another value at a place
abbrev pub put_at : ℕ → ℕ → Slot → Slot
put_at k v s = with_held s (option_map (λ (h : Held). record { words = h.words; values = slice_set h.values k v }) s.held)

put_in : (q : Room) (w : Bor (List ℕ)) (part : List ℕ) (k v : ℕ) → q.words ≡ Some w → k < length w.now → slot_in q (slice_set part k v) ≡ put_at k v (slot_in q part)
put_in q w part k v e h =
    ap (λ o. slot_by q.room q.cost (held_in o (slice_set part k v))) e
    ∙ ap (λ (vs : List ℕ). slot_by q.room q.cost (Some (record { words = w.now; values = vs }))) (take-set-lt (length w.now) part k v h)
    ∙ sym (ap (λ o. put_at k v (slot_by q.room q.cost (held_in o part))) e)

-- a value at a place in a room is one in its buffer
pub set_in : (rs : List Room) (values : List ℕ) (b : ℕ) (r : Room) (w : Bor (List ℕ)) (k v : ℕ) → slice_get rs b ≡ Some r → r.words ≡ Some w → k < length w.now → length w.now ≤ r.room
    → slots_of rs (slice_set values (before rs b + k) v) ≡ changed (put_at k v) b (slots_of rs values)
set_in [] values b r w k v h e g m = cc
set_in (q ∷ rs) values zero r w k v h e g m =
    let same : q ≡ r = some_is h in
    let at : 0 + k ≡ k = omega arith in
    let words : q.words ≡ Some w = rw same e in
    let near : k < q.room = rw same (omega (arith, g, m)) in
    rw at (ap₂ (λ (s : Slot) (ss : List Slot). s ∷ ss)
    (ap (slot_in q) (take-set-lt q.room values k v near) ∙ put_in q w (take q.room values) k v words g)
    (ap (slots_of rs) (drop-set-lt q.room values k v near)))
set_in (q ∷ rs) values (suc b) r w k v h e g m =
    let at : (q.room + before rs b) + k ≡ q.room + (before rs b + k) = omega arith in
    rw at (ap₂ (λ (s : Slot) (ss : List Slot). s ∷ ss)
    (ap (slot_in q) (take-set-le q.room values (q.room + (before rs b + k)) v (omega arith)))
    (ap (slots_of rs) (drop-set-add q.room values (before rs b + k) v) ∙ set_in rs (drop q.room values) b r w k v h e g m))

-- a room whose words go holds nothing
pub ends : (rs : List Room) (values : List ℕ) (b : ℕ) (r q : Room) → slice_get rs b ≡ Some r → q.room ≡ r.room → q.cost ≡ r.cost → q.words ≡ None
    → slots_of (slice_set rs b q) values ≡ changed ended b (slots_of rs values)
ends [] values b r q h room cost none = cc
ends (p ∷ rs) values zero r q h room cost none =
    let same : p ≡ r = some_is h in
    rw same (rw (room, cost, none) refl)
ends (p ∷ rs) values (suc b) r q h room cost none = ap (λ (ss : List Slot). slot_in p (take p.room values) ∷ ss) (ends rs (drop p.room values) b r q h room cost none)

cleared_is : (from n : ℕ) (values : List ℕ) → cleared from n values ≡ take from values ++ (replicate n 0 ++ drop (from + n) values)
cleared_is from n values = append_assoc (take from values) (replicate n 0) (drop (from + n) values)

take-cleared : (m from n : ℕ) (values : List ℕ) → m ≤ from → from ≤ length values → take m (cleared from n values) ≡ take m values
take-cleared m from n values h g =
    ap (λ (xs : List ℕ). take m xs) (cleared_is from n values)
    ∙ take-append-le m (take from values) (replicate n 0 ++ drop (from + n) values) (rw (length-take-le from values g) h)
    ∙ take-take m from values h

drop-cleared : (m from n : ℕ) (values : List ℕ) → m + from ≤ length values → drop m (cleared (m + from) n values) ≡ cleared from n (drop m values)
drop-cleared m from n values g =
    let at : (m + from) + n ≡ m + (from + n) = omega arith in
    ap (λ (xs : List ℕ). drop m xs) (cleared_is (m + from) n values)
    ∙ drop-append-le m (take (m + from) values) (replicate n 0 ++ drop ((m + from) + n) values) (rw (length-take-le (m + from) values g) (omega arith))
    ∙ ap₂ (λ (xs ys : List ℕ). xs ++ (replicate n 0 ++ ys)) (drop-take m from values) (ap (λ (i : ℕ). drop i values) at ∙ sym (drop-drop (from + n) m values))
    ∙ sym (cleared_is from n (drop m values))

pub capacity-cons : (r : Room) (rs : List Room) → capacity (r ∷ rs) ≡ r.room + capacity rs
capacity-cons r rs = sum_by-cons (λ (q : Room). q.room) r rs

-- a room ends where all rooms do, or before
pub before_fits : (rs : List Room) (b : ℕ) (r : Room) → slice_get rs b ≡ Some r → before rs b + r.room ≤ capacity rs
before_fits [] b r h = cc
before_fits (q ∷ rs) zero r h = let same : q ≡ r = some_is h in let all = capacity-cons q rs in rw (← same) (omega (arith, all))
before_fits (q ∷ rs) (suc b) r h = let rest = before_fits rs b r h in let all = capacity-cons q rs in omega (arith, rest, all)

zeros_in : (q : Room) (w : Bor (List ℕ)) (room cost n : ℕ) (rest : List ℕ) → q.room ≡ room → q.cost ≡ cost → q.words ≡ Some w → n ≡ length w.now → n ≤ room
    → slot_in q (take q.room (replicate n 0 ++ rest)) ≡ slot_by room cost (Some (record { words = w.now; values = replicate (length w.now) 0 }))
zeros_in q w room cost n rest e f g m h =
    ap (λ o. slot_by q.room q.cost (held_in o (take q.room (replicate n 0 ++ rest)))) g
    ∙ ap₂ (λ (r c : ℕ). slot_by r c (Some (record { words = w.now; values = take (length w.now) (take q.room (replicate n 0 ++ rest)) }))) e f
    ∙ ap (λ (vs : List ℕ). slot_by room cost (Some (record { words = w.now; values = vs })))
    (take-take (length w.now) q.room (replicate n 0 ++ rest) (omega (arith, e, m, h))
    ∙ take-append-le (length w.now) (replicate n 0) rest (rw (length-replicate {A = ℕ} n 0) (omega (arith, m)))
    ∙ take-replicate (length w.now) n 0 (omega (arith, m)))

-- a room whose words come, with its values cleared, holds them with 0 each
pub begins : (rs : List Room) (values : List ℕ) (b : ℕ) (r q : Room) (w : Bor (List ℕ)) (n : ℕ) → slice_get rs b ≡ Some r → q.room ≡ r.room → q.cost ≡ r.cost → q.words ≡ Some w → n ≡ length w.now → n ≤ r.room → capacity rs ≤ length values
    → slots_of (slice_set rs b q) (cleared (before rs b) n values) ≡ changed (opened w.now) b (slots_of rs values)
begins [] values b r q w n h room cost some count m cap = cc
begins (p ∷ rs) values zero r q w n h room cost some count m cap =
    let same : p ≡ r = some_is h in
    let at : 0 + n ≡ n = omega arith in
    let fits : q.room ≡ p.room = rw same room in
    let price : q.cost ≡ p.cost = rw same cost in
    let near : n ≤ p.room = rw same m in
    rw at (ap₂ (λ (s : Slot) (ss : List Slot). s ∷ ss)
    (zeros_in q w p.room p.cost n (drop n values) fits price some count near)
    (ap (slots_of rs) (drop-append-drop n values (replicate n 0) q.room (omega (arith, fits, near)) (length-replicate {A = ℕ} n 0) ∙ ap (λ (i : ℕ). drop i values) fits)))
begins (p ∷ rs) values (suc b) r q w n h room cost some count m cap =
    let all = capacity-cons p rs in
    let fit = before_fits rs b r h in
    let rest : capacity rs ≤ length (drop p.room values) = rw (length-drop p.room values) (omega (arith, all, cap)) in
    ap₂ (λ (s : Slot) (ss : List Slot). s ∷ ss)
    (ap (slot_in p) (take-cleared p.room (p.room + before rs b) n values (omega arith) (omega (arith, all, cap, fit))))
    (ap (slots_of (slice_set rs b q)) (drop-cleared p.room (before rs b) n values (omega (arith, all, cap, fit)))
    ∙ begins rs (drop p.room values) b r q w n h room cost some count m rest)

-- what is laid
pub laid_at : (at : ℕ) (rs : List Room) (b : ℕ) (r : Room) → IsLaid at rs → slice_get rs b ≡ Some r → (r.base ≡ at + before rs b) × (count_of r.words ≤ r.room)
laid_at at [] b r l h = cc
laid_at at (q ∷ rs) zero r l h = let same : q ≡ r = some_is h in rw (← same) (omega (arith, l.0), l.1)
laid_at at (q ∷ rs) (suc b) r l h = let rest = laid_at (at + q.room) rs b r l.2 h in (omega (arith, rest.0), rest.1)

pub laid-set : (at : ℕ) (rs : List Room) (b : ℕ) (r q : Room) → IsLaid at rs → slice_get rs b ≡ Some r → q.base ≡ r.base → q.room ≡ r.room → count_of q.words ≤ r.room → IsLaid at (slice_set rs b q)
laid-set at [] b r q l h base room count = cc
laid-set at (p ∷ rs) zero r q l h base room count =
    let same : p ≡ r = some_is h in
    let there : p.base ≡ at = l.0 in
    (base ∙ rw (← same) there, rw room count, rw room (rw (← same) l.2))
laid-set at (p ∷ rs) (suc b) r q l h base room count = (l.0, l.1, laid-set (at + p.room) rs b r q l.2 h base room count)

-- a sum over rooms that keep theirs
pub sum-set : (f : Room → ℕ) (rs : List Room) (b : ℕ) (r q : Room) → slice_get rs b ≡ Some r → f q ≡ f r → sum_by f (slice_set rs b q) ≡ sum_by f rs
sum-set f [] b r q h e = cc
sum-set f (p ∷ rs) zero r q h e =
    let same : p ≡ r = some_is h in
    sum_by-cons f q rs ∙ ap (λ (x : ℕ). x + sum_by f rs) (e ∙ rw same refl) ∙ sym (sum_by-cons f p rs)
sum-set f (p ∷ rs) (suc b) r q h e =
    sum_by-cons f p (slice_set rs b q) ∙ ap (λ (x : ℕ). f p + x) (sum-set f rs b r q h e) ∙ sym (sum_by-cons f p rs)

pub found_room : (rs : List Room) (b : ℕ) (r : Room) → b < length rs → r ≡ get_or rs b r → slice_get rs b ≡ Some r
found_room rs b r h e = slice_get-get_or rs b r h ∙ ap Some (sym e)

-- a place in words is below their count
pub place_within : (words : List ℕ) (w k : ℕ) → place_of words w ≡ Some k → k < length words
place_within words w k h = (position-Some (λ y. y == w) words k 0 h).0

pub place_fits : (r : Room) (words : Bor (List ℕ)) (w k : ℕ) → r.words ≡ Some words → place_of words.now w ≡ Some k → count_of r.words ≤ r.room → k < r.room
place_fits r words w k e p h =
    let few : length words.now ≤ r.room = rw e at h in
    let near = place_within words.now w k p in
    omega (arith, few, near)

pub found_place : (rs : List Room) (b : ℕ) (r : Room) (words : Bor (List ℕ)) (w k : ℕ) → slice_get rs b ≡ Some r → r.words ≡ Some words → place_of words.now w ≡ Some k → r.base ≡ 0 + before rs b
    → Some (r.base + k) ≡ option_map (λ (i : ℕ). before rs b + i) (place_at rs b w)
found_place rs b r words w k at e p base =
    ap (λ (i : ℕ). Some i) (omega (arith, base))
    ∙ sym (ap (λ o. option_map (λ (i : ℕ). before rs b + i) (option_and_then (λ (q : Room). place_in q.words w) o)) at
    ∙ ap (λ o. option_map (λ (i : ℕ). before rs b + i) (place_in o w)) e
    ∙ ap (λ o. option_map (λ (i : ℕ). before rs b + i) o) p)
