-- What a memory keeps, when a word is written or grows, and when a buffer begins or ends.
use Rattle.std.proofs.Common.{◌≡◌, ℕ, ◌+◌, ◌*◌, ◌-◌, ◌%◌, ◌^◌, ◌<◌, ◌≤◌, List, ◌++◌, length, Option, Some, None, drop, take, replicate, slice_get, slice_set, refl, sym, ap, ap₂, ◌∙◌, arith, Bor}
use Rattle.std.specs.Prelude.{option_map, option_and_then, sum_by, unwrap_or}
use Rattle.std.proofs.lemmas.Option.{get_or_from_slice_get, slice_get_within}
use Rattle.std.proofs.lemmas.List.{length-append, length-drop, length-replicate, length-set, length-take-le, take-take}
use Rattle.std.proofs.lemmas.List.Folds.{sum_by-replicate}
use Rattle.std.proofs.lemmas.List.Sums.{sum_by-set}
use Rattle.dt_mem.specs.declared.rooms.Room.{Room}
use Rattle.dt_mem.specs.Memory.{Held, Slot, changed, count_in, ended, folded, live_of, opened, place_of, sum_of, total_in, with_held, with_value, written}
use Rattle.dt_mem.specs.Rooms.{AreRooms, IsLaid, before, cleared, count_of, held_in, place_at, slot_in, slots_of}
use Rattle.dt_mem.proofs.RoomLemmas.{before_fits, begins, ends, laid-set, laid_at, place_within, slot_get, some_is, sum-set}
use Rattle.dt_mem.proofs.Totals.{live_most, sum-changed}
use Rattle.dt_mem.proofs.Places.{Found, changed_same, get-drop, get-take, parts, set_writes}

-- the live words and the values of one buffer
abbrev pub live_in : Slot → ℕ
live_in s = s.cost * count_in s.held

abbrev pub values_in : Slot → ℕ
values_in s = total_in s.held

count_kept : (w v : ℕ) (o : Option Held) → count_in (option_map (with_value w v) o) ≡ count_in o
count_kept w v None = refl
count_kept w v (Some h) = refl

-- the values of one buffer, one of which is written
written_total : (words : List ℕ) (part : List ℕ) (w k x v : ℕ) → place_of words w ≡ Some k → slice_get (take (length words) part) k ≡ Some x
    → total_in (option_map (with_value w v) (Some (record { words = words; values = take (length words) part }))) + x ≡ sum_by (λ (y : ℕ). y) (take (length words) part) + v
written_total words part w k x v p h =
    let all = sum_by-set (λ (y : ℕ). y) (take (length words) part) k v 0 (slice_get_within (take (length words) part) k x h) in
    let old = get_or_from_slice_get (take (length words) part) k x 0 h in
    ap (λ (o : Option ℕ). sum_by (λ (y : ℕ). y) (slice_set (take (length words) part) (unwrap_or o 0) v) + x) p
    ∙ ap (λ (y : ℕ). sum_by (λ (z : ℕ). z) (slice_set (take (length words) part) k v) + y) (sym old)
    ∙ all

-- the value of a word in the values of its room
part_value : (rs : List Room) (values : List ℕ) (b k n room x : ℕ) → k < n → n ≤ room → slice_get values (before rs b + k) ≡ Some x → slice_get (take n (take room (drop (before rs b) values))) k ≡ Some x
part_value rs values b k n room x h m e =
    get-take n k (take room (drop (before rs b) values)) h
    ∙ get-take room k (drop (before rs b) values) (omega (arith, h, m))
    ∙ get-drop (before rs b) k values
    ∙ e

-- a word that is written changes the sum of all values by what it changes
written_sums : (rs : List Room) (values : List ℕ) (b w k x v : ℕ) → IsLaid 0 rs → place_at rs b w ≡ Some k → slice_get values (before rs b + k) ≡ Some x
    → sum_by values_in (changed (written w v) b (slots_of rs values)) + x ≡ sum_by values_in (slots_of rs values) + v
written_sums rs values b w k x v l h g =
    let p = parts rs b w k h in
    let laid = laid_at 0 rs b p.room l p.at in
    let few : length p.words.now ≤ p.room.room = rw p.has at laid.1 in
    let near = place_within p.words.now w k p.is in
    let part : List ℕ = take p.room.room (drop (before rs b) values) in
    let all = sum-changed values_in (written w v) (slots_of rs values) b (slot_in p.room part) (slot_get rs values b p.room p.at) in
    let was : total_in (held_in p.room.words part) ≡ sum_by (λ (y : ℕ). y) (take (length p.words.now) part) = ap (λ o. total_in (held_in o part)) p.has in
    let now : total_in (option_map (with_value w v) (held_in p.room.words part)) ≡ total_in (option_map (with_value w v) (Some (record { words = p.words.now; values = take (length p.words.now) part }))) = ap (λ o. total_in (option_map (with_value w v) (held_in o part))) p.has in
    let one = written_total p.words.now part w k x v p.is (part_value rs values b k (length p.words.now) p.room.room x near few g) in
    omega (arith, all, was, now, one)

-- and leaves what is live
written_live : (m : List Slot) (b w v : ℕ) (s : Slot) → slice_get m b ≡ Some s → live_of (changed (written w v) b m) ≡ live_of m
written_live m b w v s h =
    let all = sum-changed live_in (written w v) m b s h in
    let same : s.cost * count_in (option_map (with_value w v) s.held) ≡ s.cost * count_in s.held = ap (λ (n : ℕ). s.cost * n) (count_kept w v s.held) in
    omega (arith, all, same)

-- a memory in which a word is written
pub writes_kept : (rs : List Room) (values : List ℕ) (live total b w k x v changed_total : ℕ) → AreRooms rs values live total → place_at rs b w ≡ Some k → slice_get values (before rs b + k) ≡ Some x
    → ((s : ℕ) → total ≡ s % 2 ^ 64 → (t : ℕ) → t + x ≡ s + v → changed_total ≡ t % 2 ^ 64) → AreRooms rs (slice_set values (before rs b + k) v) live changed_total
writes_kept rs values live total b w k x v changed_total a h g e =
    let p = parts rs b w k h in
    let view = set_writes rs values b w k v a.laid h in
    record {
      laid = a.laid;
      whole = a.whole ∙ sym (length-set values (before rs b + k) v);
      bound = a.bound;
      live_is = a.live_is ∙ sym (written_live (slots_of rs values) b w v (slot_in p.room (take p.room.room (drop (before rs b) values))) (slot_get rs values b p.room p.at)) ∙ ap live_of (sym view);
      sum_is = e (sum_by values_in (slots_of rs values)) a.sum_is (sum_by values_in (changed (written w v) b (slots_of rs values))) (written_sums rs values b w k x v a.laid h g) ∙ ap sum_of (sym view);
    }

-- a word that grows is written with the greater value
pub folds_write : (rs : List Room) (values : List ℕ) (b w k x d : ℕ) → IsLaid 0 rs → place_at rs b w ≡ Some k → slice_get values (before rs b + k) ≡ Some x
    → changed (folded w d) b (slots_of rs values) ≡ changed (written w ((x + d) % 2 ^ 64)) b (slots_of rs values)
folds_write rs values b w k x d l h g =
    let p = parts rs b w k h in
    let laid = laid_at 0 rs b p.room l p.at in
    let few : length p.words.now ≤ p.room.room = rw p.has at laid.1 in
    let near = place_within p.words.now w k p.is in
    let part : List ℕ = take p.room.room (drop (before rs b) values) in
    let value : option_and_then (slice_get (take (length p.words.now) part)) (place_of p.words.now w) ≡ Some x =
    ap (λ o. option_and_then (slice_get (take (length p.words.now) part)) o) p.is ∙ part_value rs values b k (length p.words.now) p.room.room x near few g in
    changed_same (folded w d) (written w ((x + d) % 2 ^ 64)) (slots_of rs values) b (slot_in p.room part) (slot_get rs values b p.room p.at)
    (ap (λ o. folded w d (record { room = p.room.room; cost = p.room.cost; held = held_in o part })) p.has
    ∙ ap (λ (o : Option ℕ). with_held (slot_in p.room part) (Some (with_value w ((unwrap_or o 0 + d) % 2 ^ 64) (record { words = p.words.now; values = take (length p.words.now) part })))) value
    ∙ sym (ap (λ o. written w ((x + d) % 2 ^ 64) (record { room = p.room.room; cost = p.room.cost; held = held_in o part })) p.has))

length-cleared : (from n : ℕ) (values : List ℕ) → from + n ≤ length values → length (cleared from n values) ≡ length values
length-cleared from n values h =
    let front = length-take-le from values (omega (arith, h)) in
    let rest = length-drop (from + n) values in
    let zeros = length-replicate {A = ℕ} n 0 in
    length-append (take from values ++ replicate n 0) (drop (from + n) values)
    ∙ ap (λ (x : ℕ). x + length (drop (from + n) values)) (length-append (take from values) (replicate n 0))
    ∙ omega (arith, front, rest, zeros, h)

-- the same at the place that was found
pub place_is : (rs : List Room) (b w place : ℕ) (found : Option ℕ) → (f : Found rs b w found) → found ≡ Some place → before rs b + f.place ≡ place
place_is rs b w place found f e = some_is (sym f.is ∙ e)

pub write_view : (rs : List Room) (values : List ℕ) (m : List Slot) (b w place v : ℕ) (found : Option ℕ) → IsLaid 0 rs → slots_of rs values ≡ m → Found rs b w found → found ≡ Some place
    → slots_of rs (slice_set values place v) ≡ changed (written w v) b m
write_view rs values m b w place v found l view f e =
    ap (λ (i : ℕ). slots_of rs (slice_set values i v)) (sym (place_is rs b w place found f e))
    ∙ set_writes rs values b w f.place v l f.at
    ∙ ap (changed (written w v) b) view

pub write_kept : (rs : List Room) (values : List ℕ) (live total b w place x v changed_total : ℕ) (found : Option ℕ) → AreRooms rs values live total → Found rs b w found → found ≡ Some place → slice_get values place ≡ Some x
    → ((s t : ℕ) → total ≡ s % 2 ^ 64 → t + x ≡ s + v → changed_total ≡ t % 2 ^ 64) → AreRooms rs (slice_set values place v) live changed_total
write_kept rs values live total b w place x v changed_total found a f e g k =
    let same = place_is rs b w place found f e in
    rw (← same) (writes_kept rs values live total b w f.place x v changed_total a f.at (ap (slice_get values) same ∙ g) (λ s h t q. k s t h q))

pub fold_view : (rs : List Room) (values : List ℕ) (m : List Slot) (b w place x d : ℕ) (found : Option ℕ) → IsLaid 0 rs → slots_of rs values ≡ m → Found rs b w found → found ≡ Some place → slice_get values place ≡ Some x
    → slots_of rs (slice_set values place ((x + d) % 2 ^ 64)) ≡ changed (folded w d) b m
fold_view rs values m b w place x d found l view f e g =
    let same = place_is rs b w place found f e in
    write_view rs values (slots_of rs values) b w place ((x + d) % 2 ^ 64) found l refl f e
    ∙ sym (folds_write rs values b w f.place x d l f.at (ap (slice_get values) same ∙ g))
    ∙ ap (changed (folded w d) b) view

pub more_total : (total x d s t : ℕ) → total ≡ s % 2 ^ 64 → t + x ≡ s + (x + d) % 2 ^ 64 → (total + d) % 2 ^ 64 ≡ t % 2 ^ 64
more_total total x d s t h e = omega (arith, h, e)

-- a memory in which a buffer begins
pub begin_kept : (rs : List Room) (values : List ℕ) (live total b n from : ℕ) (r q : Room) (w : Bor (List ℕ)) → AreRooms rs values live total → slice_get rs b ≡ Some r → r.words ≡ None → q.base ≡ r.base → q.room ≡ r.room → q.cost ≡ r.cost
    → q.words ≡ Some w → n ≡ length w.now → n ≤ r.room → from ≡ 0 + before rs b → AreRooms (slice_set rs b q) (cleared from n values) (live + r.cost * n) total
begin_kept rs values live total b n from r q w a at none base room cost some count fits place =
    let here : from ≡ before rs b = omega (arith, place) in
    let fit = before_fits rs b r at in
    let inside : before rs b + n ≤ length values = omega (arith, fit, fits, a.whole) in
    let view = begins rs values b r q w n at room cost some count fits (omega (arith, a.whole)) in
    let get = slot_get rs values b r at in
    let few : count_of q.words ≤ r.room = rw some (omega (arith, count, fits)) in
    let lives = sum-changed live_in (opened w.now) (slots_of rs values) b (slot_in r (take r.room (drop (before rs b) values))) get in
    let nothing : r.cost * count_in (held_in r.words (take r.room (drop (before rs b) values))) ≡ r.cost * 0 = ap (λ o. r.cost * count_in (held_in o (take r.room (drop (before rs b) values)))) none in
    let price : r.cost * n ≡ r.cost * length w.now = ap (λ (i : ℕ). r.cost * i) count in
    let sums = sum-changed values_in (opened w.now) (slots_of rs values) b (slot_in r (take r.room (drop (before rs b) values))) get in
    let empty : total_in (held_in r.words (take r.room (drop (before rs b) values))) ≡ 0 = ap (λ o. total_in (held_in o (take r.room (drop (before rs b) values)))) none in
    let zeros = sum_by-replicate (λ (y : ℕ). y) (length w.now) 0 in
    let now : sum_by values_in (changed (opened w.now) b (slots_of rs values)) ≡ sum_by values_in (slots_of rs values) = omega (arith, sums, empty, zeros) in
    rw here record {
      laid = laid-set 0 rs b r q a.laid at base room few;
      whole = sum-set (λ (x : Room). x.room) rs b r q at room ∙ a.whole ∙ sym (length-cleared (before rs b) n values inside);
      bound = rw (sum-set (λ (x : Room). x.room * x.cost) rs b r q at (ap₂ (λ (x y : ℕ). x * y) room cost)) a.bound;
      live_is = omega (arith, a.live_is, lives, nothing, price) ∙ sym (ap live_of view);
      sum_is = a.sum_is ∙ ap (λ (x : ℕ). x % 2 ^ 64) (sym now) ∙ sym (ap sum_of view);
    }

pub begin_view : (rs : List Room) (values : List ℕ) (m : List Slot) (live total b n from : ℕ) (r q : Room) (w : Bor (List ℕ)) → AreRooms rs values live total → slots_of rs values ≡ m → slice_get rs b ≡ Some r → q.room ≡ r.room → q.cost ≡ r.cost
    → q.words ≡ Some w → n ≡ length w.now → n ≤ r.room → from ≡ 0 + before rs b → slots_of (slice_set rs b q) (cleared from n values) ≡ changed (opened w.now) b m
begin_view rs values m live total b n from r q w a view at room cost some count fits place =
    let here : from ≡ before rs b = omega (arith, place) in
    rw here (begins rs values b r q w n at room cost some count fits (omega (arith, a.whole)) ∙ ap (changed (opened w.now) b) view)

pub live_small : (rs : List Room) (values : List ℕ) (live total : ℕ) → AreRooms rs values live total → live < 2 ^ 64
live_small rs values live total a = omega (arith, a.live_is, live_most 0 rs values a.laid, a.bound)

-- a memory in which a buffer ends
ended_sums : (rs : List Room) (values : List ℕ) (b n : ℕ) (r : Room) (w : Bor (List ℕ)) → slice_get rs b ≡ Some r → r.words ≡ Some w → n ≡ length w.now → n ≤ r.room
    → (live_of (changed ended b (slots_of rs values)) + r.cost * n ≡ live_of (slots_of rs values)) × (sum_by values_in (changed ended b (slots_of rs values)) + sum_by (λ (y : ℕ). y) (take n (drop (before rs b) values)) ≡ sum_by values_in (slots_of rs values))
ended_sums rs values b n r w at some count fits =
    let part : List ℕ = take r.room (drop (before rs b) values) in
    let get = slot_get rs values b r at in
    let lives = sum-changed live_in ended (slots_of rs values) b (slot_in r part) get in
    let was : r.cost * count_in (held_in r.words part) ≡ r.cost * n = ap (λ o. r.cost * count_in (held_in o part)) some ∙ ap (λ (i : ℕ). r.cost * i) (sym count) in
    let sums = sum-changed values_in ended (slots_of rs values) b (slot_in r part) get in
    let held : total_in (held_in r.words part) ≡ sum_by (λ (y : ℕ). y) (take n (drop (before rs b) values)) =
    ap (λ o. total_in (held_in o part)) some
    ∙ ap (λ (i : ℕ). sum_by (λ (y : ℕ). y) (take i part)) (sym count)
    ∙ ap (λ (xs : List ℕ). sum_by (λ (y : ℕ). y) xs) (take-take n r.room (drop (before rs b) values) fits) in
    (omega (arith, lives, was), omega (arith, sums, held))

pub end_fits : (rs : List Room) (values : List ℕ) (live total b n : ℕ) (r : Room) (w : Bor (List ℕ)) → AreRooms rs values live total → slice_get rs b ≡ Some r → r.words ≡ Some w → n ≡ length w.now → n ≤ r.room → r.cost * n ≤ live
end_fits rs values live total b n r w a at some count fits = omega (arith, a.live_is, (ended_sums rs values b n r w at some count fits).0)

pub end_kept : (rs : List Room) (values : List ℕ) (live total b n from dropped : ℕ) (r q : Room) (w : Bor (List ℕ)) → AreRooms rs values live total → slice_get rs b ≡ Some r → r.words ≡ Some w → q.base ≡ r.base → q.room ≡ r.room → q.cost ≡ r.cost
    → q.words ≡ None → n ≡ length w.now → n ≤ r.room → from ≡ 0 + before rs b → dropped ≡ sum_by (λ (y : ℕ). y) (take n (drop from values)) % 2 ^ 64
    → AreRooms (slice_set rs b q) values (live - r.cost * n) ((total + (2 ^ 64 - dropped)) % 2 ^ 64)
end_kept rs values live total b n from dropped r q w a at some base room cost none count fits place gone =
    let here : from ≡ before rs b = omega (arith, place) in
    let part : dropped ≡ sum_by (λ (y : ℕ). y) (take n (drop (before rs b) values)) % 2 ^ 64 = rw here at gone in
    let both = ended_sums rs values b n r w at some count fits in
    let view = ends rs values b r q at room cost none in
    let few : count_of q.words ≤ r.room = rw none (omega arith) in
    record {
      laid = laid-set 0 rs b r q a.laid at base room few;
      whole = sum-set (λ (x : Room). x.room) rs b r q at room ∙ a.whole;
      bound = rw (sum-set (λ (x : Room). x.room * x.cost) rs b r q at (ap₂ (λ (x y : ℕ). x * y) room cost)) a.bound;
      live_is = omega (arith, a.live_is, both.0) ∙ sym (ap live_of view);
      sum_is = omega (arith, a.sum_is, part, both.1) ∙ sym (ap sum_of view);
    }

pub end_view : (rs : List Room) (values : List ℕ) (m : List Slot) (b : ℕ) (r q : Room) → slots_of rs values ≡ m → slice_get rs b ≡ Some r → q.room ≡ r.room → q.cost ≡ r.cost → q.words ≡ None → slots_of (slice_set rs b q) values ≡ changed ended b m
end_view rs values m b r q view at room cost none = ends rs values b r q at room cost none ∙ ap (changed ended b) view
