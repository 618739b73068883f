-- The rooms of a new memory.
use Rattle.std.proofs.Common.{◌≡◌, ℕ, ◌+◌, ◌*◌, ◌%◌, ◌^◌, ◌<◌, ◌≤◌, List, [], ◌∷◌, ◌++◌, length, None, drop, take, map, get_or, refl, sym, ap, ap₂, ◌∙◌, arith}
use Rattle.std.specs.Prelude.{sum_by}
use Rattle.std.proofs.lemmas.List.{take_more}
use Rattle.std.proofs.lemmas.List.Sums.{sum_by-cons, sum_by_push}
use Rattle.std.proofs.Math.Seq.{take-length}
use Rattle.dt_mem.specs.declared.rooms.BufSpec.{BufSpec}
use Rattle.dt_mem.specs.declared.rooms.Room.{Room}
use Rattle.dt_mem.specs.Memory.{Slot, count_in, live_of, slot_of, sum_of, total_in}
use Rattle.dt_mem.specs.Rooms.{AreRooms, IsLaid, capacity, slots_of}
use Rattle.dt_mem.proofs.RoomLemmas.{capacity-cons}

-- an absent buffer's room
abbrev pub room_of : ℕ → BufSpec → Room
room_of at s = record { base = at; room = s.words; cost = s.cost; words = None }

-- the rooms of absent buffers, from a place on
abbrev pub rooms_from : ℕ → List BufSpec → List Room
rooms_from at [] = []
rooms_from at (s ∷ ss) = room_of at s ∷ rooms_from (at + s.words) ss

-- how many words they may have
abbrev pub words_of : List BufSpec → ℕ
words_of ss = sum_by (λ (s : BufSpec). s.words) ss

pub rooms_push : (at : ℕ) (ss : List BufSpec) (s : BufSpec) → rooms_from at (ss ++ s ∷ []) ≡ rooms_from at ss ++ room_of (at + words_of ss) s ∷ []
rooms_push at [] s = let e : at + 0 ≡ at = omega arith in rw e refl
rooms_push at (t ∷ ss) s =
    let e : (at + t.words) + words_of ss ≡ at + words_of (t ∷ ss) = let all = sum_by-cons (λ (x : BufSpec). x.words) t ss in omega (arith, all) in
    ap (λ (rs : List Room). room_of at t ∷ rs) (rooms_push (at + t.words) ss s)
    ∙ ap (λ (i : ℕ). room_of at t ∷ (rooms_from (at + t.words) ss ++ room_of i s ∷ [])) e

pub laid_from : (at : ℕ) (ss : List BufSpec) → IsLaid at (rooms_from at ss)
laid_from at [] = tt
laid_from at (s ∷ ss) = (refl, omega arith, laid_from (at + s.words) ss)

pub capacity_from : (at : ℕ) (ss : List BufSpec) → capacity (rooms_from at ss) ≡ words_of ss
capacity_from at [] = refl
capacity_from at (s ∷ ss) =
    let all = capacity-cons (room_of at s) (rooms_from (at + s.words) ss) in
    let rest = capacity_from (at + s.words) ss in
    let words = sum_by-cons (λ (x : BufSpec). x.words) s ss in
    omega (arith, all, rest, words)

pub bound_from : (at : ℕ) (ss : List BufSpec) → sum_by (λ (r : Room). r.room * r.cost) (rooms_from at ss) ≡ sum_by (λ (s : BufSpec). s.words * s.cost) ss
bound_from at [] = refl
bound_from at (s ∷ ss) =
    sum_by-cons (λ (r : Room). r.room * r.cost) (room_of at s) (rooms_from (at + s.words) ss)
    ∙ ap (λ (x : ℕ). s.words * s.cost + x) (bound_from (at + s.words) ss)
    ∙ sym (sum_by-cons (λ (x : BufSpec). x.words * x.cost) s ss)

pub slots_from : (at : ℕ) (ss : List BufSpec) (values : List ℕ) → slots_of (rooms_from at ss) values ≡ map slot_of ss
slots_from at [] values = refl
slots_from at (s ∷ ss) values = ap (λ (m : List Slot). slot_of s ∷ m) (slots_from (at + s.words) ss (drop s.words values))

none_live : (ss : List BufSpec) → live_of (map slot_of ss) ≡ 0
none_live [] = refl
none_live (s ∷ ss) =
    let all = sum_by-cons (λ (x : Slot). x.cost * count_in x.held) (slot_of s) (map slot_of ss) in
    let rest = none_live ss in
    omega (arith, all, rest)

none_total : (ss : List BufSpec) → sum_by (λ (x : Slot). total_in x.held) (map slot_of ss) ≡ 0
none_total [] = refl
none_total (s ∷ ss) = let all = sum_by-cons (λ (x : Slot). total_in x.held) (slot_of s) (map slot_of ss) in omega (arith, all, none_total ss)

pub made : (ss : List BufSpec) (values : List ℕ) → length values ≡ words_of ss → sum_by (λ (s : BufSpec). s.words * s.cost) ss < 2 ^ 64 → AreRooms (rooms_from 0 ss) values 0 0
made ss values h small =
    let view = slots_from 0 ss values in
    record {
      laid = laid_from 0 ss;
      whole = capacity_from 0 ss ∙ sym h;
      bound = rw (bound_from 0 ss) small;
      live_is = sym (ap live_of view ∙ none_live ss);
      sum_is = sym (ap sum_of view ∙ ap (λ (x : ℕ). x % 2 ^ 64) (none_total ss));
    }

-- one more room
pub room_more : (ss : List BufSpec) (i total more : ℕ) (rooms items : List Room) (d : BufSpec) → i < length ss → rooms ≡ rooms_from 0 (take i ss) → total ≡ words_of (take i ss)
    → items ≡ rooms ++ room_of total (get_or ss i d) ∷ [] → more ≡ total + (get_or ss i d).words → (items ≡ rooms_from 0 (take (i + 1) ss)) × (more ≡ words_of (take (i + 1) ss))
room_more ss i total more rooms items d h e f g k =
    let next = take_more ss i d h in
    let all = sum_by_push (λ (s : BufSpec). s.words) (take i ss) (get_or ss i d) in
    let at : total ≡ 0 + words_of (take i ss) = omega (arith, f) in (
      g
          ∙ ap₂ (λ (rs : List Room) (n : ℕ). rs ++ room_of n (get_or ss i d) ∷ []) e at
          ∙ sym (rooms_push 0 (take i ss) (get_or ss i d))
          ∙ ap (rooms_from 0) (sym next),
      rw next (omega (arith, k, f, all)),
    )

pub all_taken : (ss : List BufSpec) (i : ℕ) → i ≤ length ss → length ss ≤ i → take i ss ≡ ss
all_taken ss i h g = let e : i ≡ length ss = omega arith in rw e (take-length ss)
