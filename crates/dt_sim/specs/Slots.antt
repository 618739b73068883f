-- The buffers of a node that the tensors and workspaces of a statement have.
use Rattle.std.specs.Prelude.{◌≡◌, ℕ, ◌<◌, ◌≤◌, List, length, Some, None, slice_get, slice_set}
use Rattle.dt_mem.specs.Memory.{Slot}
use Rattle.dt_leaf.specs.NodeWords.{AreApart, LeavesRest, cells_in}
use Rattle.dt_plan.specs.Layouts.{Layout}
use Rattle.dt_plan.specs.Bounds.{buffers_of}
use Rattle.dt_plan.specs.Footprints.{buffer_by}
use Rattle.dt_events.specs.State.{own_of, with_own}
use Rattle.dt_sim.specs.Memories.{memory_at, number_in, state_in}

-- A list has the number of the buffer of each tensor and workspace of statement k that a node has, and for the others numbers
-- past all buffers. No number is there twice.
pub record AreSlots (l : Layout) (k : ℕ) (slots : List ℕ) : Type 0 where
  pub named : (t b : ℕ) → number_in (buffers_of l) (buffer_by l k t) ≡ Some b → slice_get slots t ≡ Some b
  pub past : (t b : ℕ) → number_in (buffers_of l) (buffer_by l k t) ≡ None → slice_get slots t ≡ Some b → length (buffers_of l) ≤ b
  pub apart : AreApart slots

-- What a task sees of the state is what the slots name in its node's memory.
abbrev pub TasksSeeTheirNode : Type 0
TasksSeeTheirNode =
    (l : Layout) (mems : List (List Slot)) (n k : ℕ) (slots : List ℕ) → AreSlots l k slots → length (memory_at mems n) ≡ length (buffers_of l)
    → cells_in (memory_at mems n) slots ≡ own_of l k n (state_in (buffers_of l) mems)

-- What it leaves in that memory, where it changes values that the slots name and nothing else, is what it leaves of the state.
abbrev pub TasksLeaveTheRest : Type 0
TasksLeaveTheRest =
    (l : Layout) (mems : List (List Slot)) (n k : ℕ) (slots : List ℕ) (after : List Slot) → AreSlots l k slots → length (memory_at mems n) ≡ length (buffers_of l) → length after ≡ length (buffers_of l)
    → n < length mems → LeavesRest slots (memory_at mems n) after
    → state_in (buffers_of l) (slice_set mems n after) ≡ with_own l k n (cells_in after slots) (state_in (buffers_of l) mems)
