-- The last item of a task's visits, on the memories of the nodes.
use Rattle.std.specs.Prelude.{◌≡◌, ℕ, ◌<◌, true, List, length, IfSome, Some, slice_get, slice_set}
use Rattle.dt_mem.specs.Memory.{Slot}
use Rattle.dt_nest.specs.Run.{Run}
use Rattle.dt_nest.specs.Visits.{Item}
use Rattle.dt_leaf.specs.NodeWords.{CanDoLast, GoesOver, IsShortItem, LeavesRest, after_last, cells_in}
use Rattle.dt_plan.specs.declared.ops.Op.{Op}
use Rattle.dt_plan.specs.declared.parts.Part.{Part}
use Rattle.dt_plan.specs.Layouts.{Layout}
use Rattle.dt_plan.specs.Bounds.{buffers_of}
use Rattle.dt_events.specs.Units.{item_can, item_next}
use Rattle.dt_sim.specs.Memories.{memory_at, state_in}
use Rattle.dt_sim.specs.Slots.{AreSlots}

-- A run over the visits of a part of the layout, whose last item the memories can do on the node of a task.
pub record IsItemDue (l : Layout) (o : Op) (p : Part) (r : Run) (item : Item) (mems : List (List Slot)) (slots : List ℕ) : Type 0 where
  pub part : slice_get l.parts o.stmt ≡ Some p
  pub over : GoesOver r p.sched l.stored
  pub last : r.last ≡ Some item
  pub short : IsShortItem item
  pub can : item_can l o (Some p) (Some item) (state_in (buffers_of l) mems) ≡ true
  pub node : o.node < length mems
  pub buffers : length (memory_at mems o.node) ≡ length (buffers_of l)
  pub named : AreSlots l o.stmt slots

-- A run over the visits of an operation's part, with room for the values of all variables, where the memory of the operation's node has all buffers and slots
-- name those of its statement.
pub record IsTaskOver (l : Layout) (o : Op) (r : Run) (mems : List (List Slot)) (slots : List ℕ) (room : ℕ) : Type 0 where
  pub over : IfSome (slice_get l.parts o.stmt) (λ p. GoesOver r p.sched l.stored × (room ≡ length p.sched.names))
  pub short : IfSome r.last IsShortItem
  pub node : o.node < length mems
  pub buffers : length (memory_at mems o.node) ≡ length (buffers_of l)
  pub named : AreSlots l o.stmt slots

-- Where the item runs on the node's memory alone, the state of the memories is that after the task's item.
abbrev pub ItemsAreUnits : Type 0
ItemsAreUnits =
    (l : Layout) (o : Op) (p : Part) (r : Run) (item : Item) (mems : List (List Slot)) (slots : List ℕ) → IsItemDue l o p r item mems slots
    → CanDoLast l.stored p.sched (cells_in (memory_at mems o.node) slots) r.last
    × ((after : List Slot) → cells_in after slots ≡ after_last l.stored p.sched r.last (cells_in (memory_at mems o.node) slots) → LeavesRest slots (memory_at mems o.node) after
    → state_in (buffers_of l) (slice_set mems o.node after) ≡ item_next l o (Some p) (Some item) (state_in (buffers_of l) mems))
