-- What the memories of all nodes mean as a state.
use Rattle.std.specs.Prelude.{ℕ, List, [], Option, option_and_then, option_map, position, slice_index_or, slice_set}
use Rattle.dt_mem.specs.Memory.{Held, Slot, changed, held_at, value_at}
use Rattle.dt_plan.specs.declared.touches.Buffer.{Buffer}
use Rattle.dt_events.specs.Conflicts.{is_same_buffer}
use Rattle.dt_events.specs.State.{Word, Sign, State}

-- the number of a buffer among the buffers of a node
abbrev pub number_in : List Buffer → Buffer → Option ℕ
number_in buffers b = position (is_same_buffer b) buffers

-- the memory of a node
abbrev pub memory_at : List (List Slot) → ℕ → List Slot
memory_at mems n = slice_index_or mems n []

-- the sign that a buffer is present
abbrev pub sign_of : Option Held → Option ℕ
sign_of held = option_map {U = ℕ} (λ (h : Held). 0) held

-- The state of the nodes, each of which has these buffers: a word has the value that the memory of its node has, and the sign of a
-- buffer is there while the memory has the buffer.
abbrev pub state_in : List Buffer → List (List Slot) → State
state_in buffers mems (Word n b w) = option_and_then (λ k. value_at (memory_at mems n) k w) (number_in buffers b)
state_in buffers mems (Sign n b) = option_and_then (λ k. sign_of (held_at (memory_at mems n) k)) (number_in buffers b)

-- the memories after a change of one buffer of a node
abbrev pub changed_on : (Slot → Slot) → ℕ → ℕ → List (List Slot) → List (List Slot)
changed_on change n k mems = slice_set mems n (changed change k (memory_at mems n))
