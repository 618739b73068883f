-- A node's memory: a finite map from buffers to their words, and from the words of a buffer to values.
use Rattle.std.specs.Prelude.{ℕ, zero, suc, ◌+◌, ◌*◌, ◌%◌, ◌^◌, ◌==◌, List, [], ◌∷◌, length, Option, Some, None, option_map, option_and_then, position, replicate, slice_get, slice_set, sum_by, unwrap_or}
use Rattle.dt_mem.specs.declared.rooms.BufSpec.{BufSpec}

-- the words of a buffer that is present, ascending, and the value of each
pub record Held : Type 0 where
  pub words : List ℕ
  pub values : List ℕ

-- a buffer: the most words that it may have, what a word costs, and what it holds; nothing where it is absent
pub record Slot : Type 0 where
  pub room : ℕ
  pub cost : ℕ
  pub held : Option Held

-- an absent buffer
abbrev pub slot_of : BufSpec → Slot
slot_of spec = record { room = spec.words; cost = spec.cost; held = None }

-- what a buffer holds
abbrev pub held_at : List Slot → ℕ → Option Held
held_at m b = option_and_then (λ (s : Slot). s.held) (slice_get m b)

-- how many words a buffer may have
abbrev pub room_at : List Slot → ℕ → ℕ
room_at m b = unwrap_or (option_map (λ (s : Slot). s.room) (slice_get m b)) 0

-- the words of a buffer
abbrev pub words_at : List Slot → ℕ → Option (List ℕ)
words_at m b = option_map (λ (h : Held). h.words) (held_at m b)

-- the place of a word among words
abbrev pub place_of : List ℕ → ℕ → Option ℕ
place_of words w = position (λ y. y == w) words

-- the value of a word
abbrev pub value_in : Held → ℕ → Option ℕ
value_in h w = option_and_then (slice_get h.values) (place_of h.words w)

-- the value of a word of a buffer; none where the buffer is absent or doesn't have the word
abbrev pub value_at : List Slot → ℕ → ℕ → Option ℕ
value_at m b w = option_and_then (λ h. value_in h w) (held_at m b)

-- the words with this value in one of them
abbrev pub with_value : ℕ → ℕ → Held → Held
with_value w v h = record { words = h.words; values = slice_set h.values (unwrap_or (place_of h.words w) 0) v }

-- the words with one of them grown, modulo 2 ^ 64
abbrev pub with_more : ℕ → ℕ → Held → Held
with_more w d h = with_value w ((unwrap_or (value_in h w) 0 + d) % 2 ^ 64) h

-- a buffer with other contents
abbrev pub with_held : Slot → Option Held → Slot
with_held s held = record { room = s.room; cost = s.cost; held = held }

-- a buffer that begins has its words, each 0
abbrev pub opened : List ℕ → Slot → Slot
opened words s = with_held s (Some (record { words = words; values = replicate (length words) 0 }))

-- a buffer that ends is absent
abbrev pub ended : Slot → Slot
ended s = with_held s None

-- a word is written
abbrev pub written : ℕ → ℕ → Slot → Slot
written w v s = with_held s (option_map (with_value w v) s.held)

-- a word grows
abbrev pub folded : ℕ → ℕ → Slot → Slot
folded w d s = with_held s (option_map (with_more w d) s.held)

-- the memory with one buffer changed
abbrev pub changed : (Slot → Slot) → ℕ → List Slot → List Slot
changed change b [] = []
changed change zero (s ∷ m) = change s ∷ m
changed change (suc b) (s ∷ m) = s ∷ changed change b m

-- how many words a buffer has now
abbrev pub count_in : Option Held → ℕ
count_in None = 0
count_in (Some h) = length h.words

-- the sum of a buffer's values
abbrev pub total_in : Option Held → ℕ
total_in None = 0
total_in (Some h) = sum_by (λ (v : ℕ). v) h.values

-- the words that the present buffers have, each times its cost
abbrev pub live_of : List Slot → ℕ
live_of m = sum_by (λ (s : Slot). s.cost * count_in s.held) m

-- the sum of all values, modulo 2 ^ 64
abbrev pub sum_of : List Slot → ℕ
sum_of m = sum_by (λ (s : Slot). total_in s.held) m % 2 ^ 64
