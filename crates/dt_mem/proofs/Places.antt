-- Where the value of a word is, and what a buffer is when it changes.
use Rattle.std.proofs.Common.{◌≡◌, ℕ, zero, suc, ◌+◌, ◌<◌, ◌≤◌, true, List, [], ◌∷◌, length, Option, Some, None, is_some, drop, take, slice_get, slice_set, refl, sym, ap, ◌∙◌, arith, Bor}
use Rattle.std.specs.Prelude.{option_map, option_and_then, unwrap_or}
use Rattle.std.proofs.lemmas.Option.{option_and_then_some, slice_get-get_or}
use Rattle.dt_mem.specs.declared.rooms.Room.{Room}
use Rattle.dt_mem.specs.Memory.{Held, Slot, changed, held_at, place_of, room_at, value_at, value_in, words_at, written}
use Rattle.dt_mem.specs.Rooms.{IsLaid, before, capacity, count_of, held_in, place_at, place_in, slot_in, slots_of}
use Rattle.dt_mem.proofs.RoomLemmas.{before_fits, laid_at, place_fits, place_within, put_at, set_in, slot_get, some_is}

pub get-take : (n k : ℕ) (xs : List ℕ) → k < n → slice_get (take n xs) k ≡ slice_get xs k
get-take zero k xs h = absurd (omega arith)
get-take (suc n) k [] h = refl
get-take (suc n) zero (x ∷ xs) h = refl
get-take (suc n) (suc k) (x ∷ xs) h = get-take n k xs (omega arith)

pub get-drop : (m k : ℕ) (xs : List ℕ) → slice_get (drop m xs) k ≡ slice_get xs (m + k)
get-drop zero k xs = let e : 0 + k ≡ k = omega arith in rw e refl
get-drop (suc m) k [] = refl
get-drop (suc m) k (x ∷ xs) = let e : suc m + k ≡ suc (m + k) = omega arith in rw e (get-drop m k xs)

same_then : (p : Option ℕ) (f g : ℕ → Option ℕ) → ((k : ℕ) → p ≡ Some k → f k ≡ g k) → option_and_then f p ≡ option_and_then g p
same_then None f g h = refl
same_then (Some k) f g h = h k refl

value_here : (o : Option (Bor (List ℕ))) (room w : ℕ) (values : List ℕ) → count_of o ≤ room
    → option_and_then (λ h. value_in h w) (held_in o (take room values)) ≡ option_and_then (λ k. slice_get values (0 + k)) (place_in o w)
value_here None room w values h = refl
value_here (Some words) room w values h =
    same_then (place_of words.now w) (slice_get (take (length words.now) (take room values))) (λ k. slice_get values (0 + k))
    (λ k e. let near = place_within words.now w k e in let at : 0 + k ≡ k = omega arith in
    get-take (length words.now) k (take room values) near ∙ get-take room k values (omega (arith, near, h)) ∙ ap (slice_get values) (sym at))

-- the value of a word is the one at its place
pub value_is : (at : ℕ) (rs : List Room) (values : List ℕ) (b w : ℕ) → IsLaid at rs → value_at (slots_of rs values) b w ≡ option_and_then (λ k. slice_get values (before rs b + k)) (place_at rs b w)
value_is at [] values b w l = refl
value_is at (r ∷ rs) values zero w l = value_here r.words r.room w values l.1
value_is at (r ∷ rs) values (suc b) w l =
    value_is (at + r.room) rs (drop r.room values) b w l.2
    ∙ same_then (place_at rs b w) (λ k. slice_get (drop r.room values) (before rs b + k)) (λ k. slice_get values ((r.room + before rs b) + k))
    (λ k e. let at : r.room + (before rs b + k) ≡ (r.room + before rs b) + k = omega arith in get-drop r.room (before rs b + k) values ∙ ap (slice_get values) at)

-- what a place comes from
pub record Parts (rs : List Room) (b w k : ℕ) : Type 0 where
  pub room : Room
  pub words : Bor (List ℕ)
  pub at : slice_get rs b ≡ Some room
  pub has : room.words ≡ Some words
  pub is : place_of words.now w ≡ Some k

place_in_some : (rs : List Room) (b w k : ℕ) (r : Room) → slice_get rs b ≡ Some r → (o : Option (Bor (List ℕ))) → r.words ≡ o → place_in o w ≡ Some k → Parts rs b w k
place_in_some rs b w k r at None e h = absurd (cc)
place_in_some rs b w k r at (Some words) e h = record { room = r; words = words; at = at; has = e; is = h }

pub parts : (rs : List Room) (b w k : ℕ) → place_at rs b w ≡ Some k → Parts rs b w k
parts rs b w k h = option_and_then_some {P = Parts rs b w k} (λ (r : Room). place_in r.words w) (slice_get rs b) k h (λ r at e. place_in_some rs b w k r at r.words refl e)

-- a place is among the values
pub place_small : (rs : List Room) (b w k : ℕ) → IsLaid 0 rs → place_at rs b w ≡ Some k → before rs b + k < capacity rs
place_small rs b w k l h =
    let p = parts rs b w k h in
    let laid = laid_at 0 rs b p.room l p.at in
    let fit = before_fits rs b p.room p.at in
    let near = place_fits p.room p.words w k p.has p.is laid.1 in
    omega (arith, fit, near)

pub changed_same : (f g : Slot → Slot) (m : List Slot) (b : ℕ) (s : Slot) → slice_get m b ≡ Some s → f s ≡ g s → changed f b m ≡ changed g b m
changed_same f g [] b s h e = refl
changed_same f g (t ∷ m) zero s h e = let same : t ≡ s = some_is h in rw same (ap (λ (x : Slot). x ∷ m) e)
changed_same f g (t ∷ m) (suc b) s h e = ap (λ (ss : List Slot). t ∷ ss) (changed_same f g m b s h e)

abbrev slot_with : ℕ → ℕ → Option Held → Slot
slot_with room cost held = record { room = room; cost = cost; held = held }

-- a value that is set at the place of a word is written there
pub set_writes : (rs : List Room) (values : List ℕ) (b w k v : ℕ) → IsLaid 0 rs → place_at rs b w ≡ Some k → slots_of rs (slice_set values (before rs b + k) v) ≡ changed (written w v) b (slots_of rs values)
set_writes rs values b w k v l h =
    let p = parts rs b w k h in
    let laid = laid_at 0 rs b p.room l p.at in
    let few : length p.words.now ≤ p.room.room = rw p.has at laid.1 in
    let part : List ℕ = take p.room.room (drop (before rs b) values) in
    set_in rs values b p.room p.words k v p.at p.has (place_within p.words.now w k p.is) few
    ∙ changed_same (put_at k v) (written w v) (slots_of rs values) b (slot_in p.room part) (slot_get rs values b p.room p.at)
    (ap (λ o. put_at k v (slot_with p.room.room p.room.cost (held_in o part))) p.has
    ∙ ap (λ (o : Option ℕ). slot_with p.room.room p.room.cost (Some (record { words = p.words.now; values = slice_set (take (length p.words.now) part) (unwrap_or o 0) v }))) (sym p.is)
    ∙ sym (ap (λ o. written w v (slot_with p.room.room p.room.cost (held_in o part))) p.has))

length-slots_of : (rs : List Room) (values : List ℕ) → length (slots_of rs values) ≡ length rs
length-slots_of [] values = refl
length-slots_of (r ∷ rs) values = ap suc (length-slots_of rs (drop r.room values))

-- a buffer has a room
pub has_room : (rs slice : List Room) (values : List ℕ) (m : List Slot) (b : ℕ) → slots_of rs values ≡ m → slice ≡ rs → b < length m → b < length slice
has_room rs slice values m b view same h = rw same (rw (← length-slots_of rs values) (rw view h))

found_some : (p : Option ℕ) (f : ℕ → Option ℕ) → is_some (option_and_then f p) ≡ true → (k : ℕ) × (p ≡ Some k)
found_some None f h = absurd (cc)
found_some (Some k) f h = (k, refl)

both_some : (p : Option ℕ) (f : ℕ → ℕ) (values : List ℕ) → ((k : ℕ) → p ≡ Some k → f k < length values) → is_some (option_map f p) ≡ is_some (option_and_then (λ k. slice_get values (f k)) p)
both_some None f values h = refl
both_some (Some k) f values h = sym (ap is_some (slice_get-get_or values (f k) 0 (h k refl)))

-- a word that is held, and what `find` answers of it
pub record Found (rs : List Room) (b w : ℕ) (found : Option ℕ) : Type 0 where
  pub place : ℕ
  pub at : place_at rs b w ≡ Some place
  pub is : found ≡ Some (before rs b + place)

pub find_held : (rs slice : List Room) (values : List ℕ) (m : List Slot) (b w : ℕ) (found : Option ℕ) → IsLaid 0 rs → slots_of rs values ≡ m → slice ≡ rs
    → found ≡ option_map (λ (k : ℕ). before slice b + k) (place_at slice b w) → is_some (value_at m b w) ≡ true → Found rs b w found
find_held rs slice values m b w found l view same e h =
    let there = found_some (place_at rs b w) (λ k. slice_get values (before rs b + k)) (ap is_some (sym (value_is 0 rs values b w l)) ∙ ap (λ (x : List Slot). is_some (value_at x b w)) view ∙ h) in
    record {
      place = there.0;
      at = there.1;
      is = e ∙ ap (λ (x : List Room). option_map (λ (k : ℕ). before x b + k) (place_at x b w)) same ∙ ap (λ o. option_map (λ (k : ℕ). before rs b + k) o) there.1;
    }

-- the place that was found is among the values
pub found_within : (rs : List Room) (b w place : ℕ) (found : Option ℕ) (values : List ℕ) → IsLaid 0 rs → capacity rs ≡ length values → Found rs b w found → found ≡ Some place → place < length values
found_within rs b w place found values l whole f e =
    let same : before rs b + f.place ≡ place = some_is (sym f.is ∙ e) in
    let small = place_small rs b w f.place l f.at in
    omega (arith, same, small, whole)

-- and has the word's value
pub found_value : (rs : List Room) (values : List ℕ) (m : List Slot) (b w place x : ℕ) (found : Option ℕ) → IsLaid 0 rs → slots_of rs values ≡ m → Found rs b w found → found ≡ Some place → slice_get values place ≡ Some x → value_at m b w ≡ Some x
found_value rs values m b w place x found l view f e h =
    let same : before rs b + f.place ≡ place = some_is (sym f.is ∙ e) in
    ap (λ (y : List Slot). value_at y b w) (sym view) ∙ value_is 0 rs values b w l ∙ ap (λ o. option_and_then (λ k. slice_get values (before rs b + k)) o) f.at ∙ ap (slice_get values) same ∙ h

-- whether a word is held is whether it is found
pub found_is_held : (rs slice : List Room) (values : List ℕ) (m : List Slot) (b w : ℕ) (found : Option ℕ) → IsLaid 0 rs → capacity rs ≡ length values → slots_of rs values ≡ m → slice ≡ rs
    → found ≡ option_map (λ (k : ℕ). before slice b + k) (place_at slice b w) → is_some found ≡ is_some (value_at m b w)
found_is_held rs slice values m b w found l whole view same e =
    ap is_some e
    ∙ ap (λ (x : List Room). is_some (option_map (λ (k : ℕ). before x b + k) (place_at x b w))) same
    ∙ both_some (place_at rs b w) (λ k. before rs b + k) values (λ k h. omega (arith, place_small rs b w k l h, whole))
    ∙ ap is_some (sym (value_is 0 rs values b w l))
    ∙ ap (λ (x : List Slot). is_some (value_at x b w)) view

words_in : (o : Option (Bor (List ℕ))) (part : List ℕ) → option_map (λ (x : Bor (List ℕ)). x.now) o ≡ option_map (λ (h : Held). h.words) (held_in o part)
words_in None part = refl
words_in (Some w) part = refl

-- what a room says of its buffer
pub words_here : (rs : List Room) (values : List ℕ) (m : List Slot) (b : ℕ) (r : Room) → slots_of rs values ≡ m → slice_get rs b ≡ Some r → option_map (λ (x : Bor (List ℕ)). x.now) r.words ≡ words_at m b
words_here rs values m b r view at =
    words_in r.words (take r.room (drop (before rs b) values))
    ∙ ap (λ o. option_map (λ (h : Held). h.words) (option_and_then (λ (s : Slot). s.held) o)) (sym (slot_get rs values b r at))
    ∙ ap (λ (x : List Slot). words_at x b) view

pub room_here : (rs : List Room) (values : List ℕ) (m : List Slot) (b : ℕ) (r : Room) → slots_of rs values ≡ m → slice_get rs b ≡ Some r → room_at m b ≡ r.room
room_here rs values m b r view at =
    ap (λ (x : List Slot). room_at x b) (sym view) ∙ ap (λ o. unwrap_or (option_map (λ (s : Slot). s.room) o) 0) (slot_get rs values b r at)

held_here : (rs : List Room) (values : List ℕ) (m : List Slot) (b : ℕ) (r : Room) → slots_of rs values ≡ m → slice_get rs b ≡ Some r → held_at m b ≡ held_in r.words (take r.room (drop (before rs b) values))
held_here rs values m b r view at = ap (λ (x : List Slot). held_at x b) (sym view) ∙ ap (λ o. option_and_then (λ (s : Slot). s.held) o) (slot_get rs values b r at)

no_words : (o : Option (Bor (List ℕ))) (part : List ℕ) → held_in o part ≡ None → o ≡ None
no_words None part h = refl
no_words (Some w) part h = cc

pub absent_here : (rs : List Room) (values : List ℕ) (m : List Slot) (b : ℕ) (r : Room) → slots_of rs values ≡ m → slice_get rs b ≡ Some r → held_at m b ≡ None → r.words ≡ None
absent_here rs values m b r view at h = no_words r.words (take r.room (drop (before rs b) values)) (sym (held_here rs values m b r view at) ∙ h)

some_words : (o : Option (Bor (List ℕ))) (part : List ℕ) → is_some (held_in o part) ≡ true → (w : Bor (List ℕ)) × (o ≡ Some w)
some_words None part h = absurd (cc)
some_words (Some w) part h = (w, refl)

pub present_here : (rs : List Room) (values : List ℕ) (m : List Slot) (b : ℕ) (r : Room) → slots_of rs values ≡ m → slice_get rs b ≡ Some r → is_some (held_at m b) ≡ true → (w : Bor (List ℕ)) × (r.words ≡ Some w)
present_here rs values m b r view at h = some_words r.words (take r.room (drop (before rs b) values)) (ap is_some (sym (held_here rs values m b r view at)) ∙ h)
