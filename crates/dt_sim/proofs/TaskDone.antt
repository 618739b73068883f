-- A task's item on the memory of its node is that item of the state.
use Rattle.std.proofs.Common.{◌≡◌, ℕ, List, length, Option, Some, slice_set, sym, ap, ◌∙◌, subst}
use Rattle.dt_mem.specs.Memory.{Slot}
use Rattle.dt_nest.specs.Run.{Run}
use Rattle.dt_nest.specs.Unit as own
use Rattle.dt_nest.specs.Visits.{Item}
use Rattle.dt_leaf.specs.NodeWords.{CanDoLast, LeavesRest, after_last, cells_in, frame_of}
use Rattle.std.proofs.lemmas.List.{length-map}
use Rattle.dt_plan.specs.declared.ops.Op.{Op}
use Rattle.dt_plan.specs.declared.parts.Part.{Part}
use Rattle.dt_plan.specs.Layouts.{Layout}
use Rattle.dt_plan.specs.Bounds.{buffers_of}
use Rattle.dt_events.specs.State.{own_of, with_own}
use Rattle.dt_events.specs.Units.{item_next}
use Rattle.dt_sim.specs.Memories.{memory_at, state_in}
use Rattle.dt_sim.specs.TaskItems.{IsItemDue}
use Rattle.dt_sim.proofs.TaskCells.{leaves_rest, sees_node}

module _ (l : Layout) (o : Op) (p : Part) (r : Run) (item : Item) (mems : List (List Slot)) (slots : List ℕ) (due : IsItemDue l o p r item mems slots) where
  seen : cells_in (memory_at mems o.node) slots ≡ own_of l o.stmt o.node (state_in (buffers_of l) mems)
  seen = sees_node l o.stmt slots due.named mems o.node due.buffers

  -- the node's memory can do the item
  pub item_ready : CanDoLast l.stored p.sched (cells_in (memory_at mems o.node) slots) r.last
  item_ready =
      subst (CanDoLast l.stored p.sched (cells_in (memory_at mems o.node) slots)) (sym due.last)
      (ap (own.can_do l.stored p.sched item) seen ∙ due.can, due.short)

  -- and where it has done it, the state is that after the item
  pub item_done : (after : List Slot) → cells_in after slots ≡ after_last l.stored p.sched r.last (cells_in (memory_at mems o.node) slots) → LeavesRest slots (memory_at mems o.node) after
      → state_in (buffers_of l) (slice_set mems o.node after) ≡ item_next l o (Some p) (Some item) (state_in (buffers_of l) mems)
  item_done after e rest =
      let count : length after ≡ length (buffers_of l) = sym (length-map after frame_of) ∙ ap length rest.layout ∙ length-map (memory_at mems o.node) frame_of ∙ due.buffers in
      let left : cells_in after slots ≡ own.unit_of l.stored p.sched item (own_of l o.stmt o.node (state_in (buffers_of l) mems)) =
      e ∙ ap (λ (i : Option Item). after_last l.stored p.sched i (cells_in (memory_at mems o.node) slots)) due.last ∙ ap (own.unit_of l.stored p.sched item) seen in
      leaves_rest l o.stmt slots due.named mems o.node after count due.node rest ∙ ap (λ (x : own.State). with_own l o.stmt o.node x (state_in (buffers_of l) mems)) left
