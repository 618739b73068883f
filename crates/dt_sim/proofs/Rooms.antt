-- Memories, nodes and buffers that are there, and rooms that stay.
use Rattle.std.proofs.Common.{◌≡◌, ℕ, zero, suc, ◌<◌, true, List, [], ◌∷◌, length, get_or, map, refl, sym, ap, ◌∙◌, subst, arith}
use Rattle.std.specs.Prelude.{is_some}
use Rattle.std.proofs.Math.Seq.{map-set_same}
use Rattle.std.proofs.lemmas.List.{get_or_default, length-map}
use Rattle.dt_mem.specs.Memory.{Slot, changed, held_at}
use Rattle.dt_sim.specs.Memories.{changed_on, memory_at}
use Rattle.dt_sim.specs.UnitsDone.{rooms_of}

-- a node that has a buffer is there
pub node_within : (mems : List (List Slot)) (n b : ℕ) → b < length (memory_at mems n) → n < length mems
node_within [] n b h = absurd (omega arith)
node_within (m ∷ mems) zero b h = omega arith
node_within (m ∷ mems) (suc n) b h = (let i = node_within mems n b h in omega (arith, i))

-- a buffer that is present exists
pub present_within : (m : List Slot) (b : ℕ) → is_some (held_at m b) ≡ true → b < length m
present_within [] b e = absurd (cc)
present_within (s ∷ m) zero e = omega arith
present_within (s ∷ m) (suc b) e = (let i = present_within m b e in omega (arith, i))

-- the memory that was read is that of the node
pub memory_read : (mems : List (List Slot)) (n b : ℕ) (m : List Slot) → m ≡ get_or mems n m → b < length (memory_at mems n) → b < length m
memory_read mems n b m e h = (let same : m ≡ memory_at mems n = e ∙ get_or_default mems n m [] (node_within mems n b h) in subst (λ (x : List Slot). b < length x) (sym same) h)

-- Rooms -----------------------------------------------------------------------------------------------------------------

-- the room and the cost of a buffer
abbrev pub room_of : Slot → ℕ × ℕ
room_of s = (s.room, s.cost)

rooms_kept : (f : Slot → Slot) → ((s : Slot) → room_of (f s) ≡ room_of s) → (m : List Slot) (k : ℕ) → map room_of (changed f k m) ≡ map room_of m
rooms_kept f h [] k = refl
rooms_kept f h (s ∷ m) zero = ap (λ x. x ∷ map room_of m) (h s)
rooms_kept f h (s ∷ m) (suc k) = ap (λ x. room_of s ∷ x) (rooms_kept f h m k)

-- a change of what a buffer holds keeps all rooms
pub same_rooms : (f : Slot → Slot) → ((s : Slot) → room_of (f s) ≡ room_of s) → (mems : List (List Slot)) (n k : ℕ) → rooms_of (changed_on f n k mems) ≡ rooms_of mems
same_rooms f h mems n k = map-set_same (map room_of) mems n (changed f k (memory_at mems n)) [] (rooms_kept f h (memory_at mems n) k)

rooms_at : (mems : List (List Slot)) (n : ℕ) → map room_of (memory_at mems n) ≡ get_or (rooms_of mems) n []
rooms_at [] n = refl
rooms_at (m ∷ mems) zero = refl
rooms_at (m ∷ mems) (suc n) = rooms_at mems n

-- a node has as many buffers as before
pub same_count : (old new : List (List Slot)) → rooms_of new ≡ rooms_of old → (n : ℕ) → length (memory_at new n) ≡ length (memory_at old n)
same_count old new e n =
    sym (length-map (memory_at new n) room_of)
    ∙ ap length (rooms_at new n ∙ ap (λ (x : List (List (ℕ × ℕ))). get_or x n []) e ∙ sym (rooms_at old n))
    ∙ length-map (memory_at old n) room_of
