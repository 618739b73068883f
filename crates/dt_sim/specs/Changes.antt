-- A change of one node's memory is that change of the state.
use Rattle.std.specs.Prelude.{◌≡◌, ℕ, ◌<◌, List, [], ◌∷◌, length, Some}
use Rattle.dt_mem.specs.Memory.{Slot, ended, folded, opened, value_at, written}
use Rattle.dt_plan.specs.declared.touches.Buffer.{Buffer}
use Rattle.dt_events.specs.State.{added_to, overwritten, with_buffer, without_buffer}
use Rattle.dt_sim.specs.Memories.{changed_on, memory_at, number_in, state_in}

-- where a buffer begins it is opened
abbrev pub BeginningsOpen : Type 0
BeginningsOpen =
    (buffers : List Buffer) (mems : List (List Slot)) (n k : ℕ) (b : Buffer) (words : List ℕ) → number_in buffers b ≡ Some k → n < length mems → k < length (memory_at mems n)
    → state_in buffers (changed_on (opened words) n k mems) ≡ with_buffer n b words (state_in buffers mems)

-- where it ends it is closed
abbrev pub EndsClose : Type 0
EndsClose =
    (buffers : List Buffer) (mems : List (List Slot)) (n k : ℕ) (b : Buffer) → number_in buffers b ≡ Some k → n < length mems
    → state_in buffers (changed_on ended n k mems) ≡ without_buffer n b (state_in buffers mems)

-- a word that is written is overwritten
abbrev pub WritesOverwrite : Type 0
WritesOverwrite =
    (buffers : List Buffer) (mems : List (List Slot)) (n k : ℕ) (b : Buffer) (w x v : ℕ) → number_in buffers b ≡ Some k → n < length mems → value_at (memory_at mems n) k w ≡ Some x
    → state_in buffers (changed_on (written w v) n k mems) ≡ overwritten n b (w ∷ []) v (state_in buffers mems)

-- a word that is folded into grows
abbrev pub FoldsAdd : Type 0
FoldsAdd =
    (buffers : List Buffer) (mems : List (List Slot)) (n k : ℕ) (b : Buffer) (w x d : ℕ) → number_in buffers b ≡ Some k → n < length mems → value_at (memory_at mems n) k w ≡ Some x
    → state_in buffers (changed_on (folded w d) n k mems) ≡ added_to n b (w ∷ []) d (state_in buffers mems)
