-- The words of a node's memory that a visit reads and writes.
use Rattle.std.specs.Prelude.{◌≡◌, ℕ, true, false, List, length, map, Option, Some, None, option_and_then, option_map, slice_get}
use Rattle.std.specs.List.{AllByRecursion}
use Rattle.dt_model.specs.Positions.{StoredTensor}
use Rattle.dt_mem.specs.Memory.{Held, Slot, held_at, value_at}
use Rattle.dt_nest.specs.Schedule.{Schedule}
use Rattle.dt_nest.specs.Lawful.{IsLawful}
use Rattle.dt_nest.specs.Run.{Run, is_among}
use Rattle.dt_nest.specs.Unit.{Word, Sign, State, can_do, is_held, unit_of, word_of}
use Rattle.dt_nest.specs.Visits.{Item, IsReset, IsVisit, visits_of}
use Rattle.dt_leaf.specs.AtVisit.{IsShortLeaf, Readable}

-- the cells of a memory, where a list names the buffer of each tensor and workspace
abbrev pub cells_in : List Slot → List ℕ → State
cells_in mem slots (Word t k) = option_and_then (λ b. value_at mem b k) (slice_get slots t)
cells_in mem slots (Sign t) = option_and_then (λ b. option_map {U = ℕ} (λ (h : Held). 0) (held_at mem b)) (slice_get slots t)

-- two tensors or workspaces have two buffers
abbrev pub AreApart : List ℕ → Type 0
AreApart slots = (t u b : ℕ) → slice_get slots t ≡ Some b → slice_get slots u ≡ Some b → u ≡ t

-- a run goes over a schedule, and over the tensors that are stored
abbrev pub GoesOver : Run → Schedule → List StoredTensor → Type 0
GoesOver r s stored = (r.sched ≡ s) × (r.stored ≡ stored) × (length stored ≡ length s.tensors)

-- what is read at coordinates that have a word is in the memory
abbrev pub readable_in : List StoredTensor → Schedule → State → Readable
readable_in stored s state t c = is_held state t (word_of stored s t c) ≡ true

-- each access of an item has at most sixteen variables
abbrev pub IsShortItem : Item → Type 0
IsShortItem (IsReset work) = Unit {0}
IsShortItem (IsVisit visit) = IsShortLeaf visit

-- So is each item of a schedule's visits.
abbrev pub ItemsAreShort : Type 0
ItemsAreShort = (stored : List StoredTensor) (s : Schedule) (path : List ℕ) → IsLawful s → AllByRecursion IsShortItem (visits_of stored s path)

-- the last item of a run can be done in a state
abbrev pub CanDoLast : List StoredTensor → Schedule → State → Option Item → Type 0
CanDoLast stored s state None = ⊥
CanDoLast stored s state (Some item) = (can_do stored s item state ≡ true) × IsShortItem item

-- what the last item of a run makes of a state
abbrev pub after_last : List StoredTensor → Schedule → Option Item → State → State
after_last stored s None state = state
after_last stored s (Some item) state = unit_of stored s item state

-- what a buffer is without its values: its room, its cost, and its words where it is present
abbrev pub frame_of : Slot → ℕ × ℕ × Option (List ℕ)
frame_of s = (s.room, s.cost, option_map (λ (h : Held). h.words) s.held)

-- so are the buffers of a memory
abbrev pub layout_of : List Slot → List (ℕ × ℕ × Option (List ℕ))
layout_of mem = map frame_of mem

-- Only values of buffers that slots name may differ: each buffer has the room, the cost and the words that it had, and the
-- buffers that no slot names are as they were.
pub record LeavesRest (slots : List ℕ) (old new : List Slot) : Type 0 where
  pub layout : layout_of new ≡ layout_of old
  pub others : (b : ℕ) → is_among b slots ≡ false → slice_get new b ≡ slice_get old b
