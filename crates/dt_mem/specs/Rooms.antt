-- The rooms of buffers in one list of values, one behind the other.
use Rattle.std.specs.Prelude.{◌≡◌, ℕ, zero, suc, ◌+◌, ◌*◌, ◌<◌, ◌≤◌, ◌^◌, List, [], ◌∷◌, ◌++◌, length, Option, Some, None, option_and_then, replicate, slice_get, sum_by, take, drop}
use Rattle.std.specs.Borrow.{Bor}
use Rattle.dt_mem.specs.declared.rooms.Room.{Room}
use Rattle.dt_mem.specs.Memory.{Held, Slot, live_of, place_of, sum_of}

-- what a buffer holds that has these words, where the values of its room are these
abbrev pub held_in : Option (Bor (List ℕ)) → List ℕ → Option Held
held_in None part = None
held_in (Some words) part = Some (record { words = words.now; values = take (length words.now) part })

-- the buffer of a room with these values
abbrev pub slot_in : Room → List ℕ → Slot
slot_in r part = record { room = r.room; cost = r.cost; held = held_in r.words part }

-- the buffers of rooms, in their order
abbrev pub slots_of : List Room → List ℕ → List Slot
slots_of [] values = []
slots_of (r ∷ rs) values = slot_in r (take r.room values) ∷ slots_of rs (drop r.room values)

-- so many values from a place on are 0
abbrev pub cleared : ℕ → ℕ → List ℕ → List ℕ
cleared from n values = take from values ++ replicate n 0 ++ drop (from + n) values

-- how many values the rooms before one take
abbrev pub before : List Room → ℕ → ℕ
before [] b = 0
before (r ∷ rs) zero = 0
before (r ∷ rs) (suc b) = r.room + before rs b

-- how many values all rooms take
abbrev pub capacity : List Room → ℕ
capacity rs = sum_by (λ (r : Room). r.room) rs

-- how many words a room has now
abbrev pub count_of : Option (Bor (List ℕ)) → ℕ
count_of None = 0
count_of (Some words) = length words.now

-- each room begins behind the one before it, and has no more words than fit
abbrev pub IsLaid : ℕ → List Room → Type 0
IsLaid at [] = Unit {0}
IsLaid at (r ∷ rs) = (r.base ≡ at) × (count_of r.words ≤ r.room) × IsLaid (at + r.room) rs

-- the place of a word in its room
abbrev pub place_in : Option (Bor (List ℕ)) → ℕ → Option ℕ
place_in None w = None
place_in (Some words) w = place_of words.now w

-- the place of a word of a buffer in its room
abbrev pub place_at : List Room → ℕ → ℕ → Option ℕ
place_at rs b w = option_and_then (λ (r : Room). place_in r.words w) (slice_get rs b)

-- what a memory keeps: its rooms fill the values, their cost is small, and two running numbers are the memory's
pub record AreRooms (rs : List Room) (values : List ℕ) (live total : ℕ) : Type 0 where
  pub laid : IsLaid 0 rs
  pub whole : capacity rs ≡ length values
  pub bound : sum_by (λ (r : Room). r.room * r.cost) rs < 2 ^ 64
  pub live_is : live ≡ live_of (slots_of rs values)
  pub sum_is : total ≡ sum_of (slots_of rs values)
