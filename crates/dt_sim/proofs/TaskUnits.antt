-- A unit of a task that the memories can do is an item of its part on the memory of its node.
use Rattle.std.proofs.Common.{◌≡◌, ℕ, ◌+◌, ◌<◌, true, List, [], ◌∷◌, length, get_or, map, Option, None, Some, IfSome, slice_get, slice_set, refl, sym, ap, ◌∙◌, subst}
use Rattle.std.proofs.Math.Seq.{map-set_same}
use Rattle.std.proofs.lemmas.List.{get_or_default}
use Rattle.std.proofs.lemmas.Option.{same_Some, slice_get-get_or, slice_get_within}
use Rattle.dt_mem.specs.Memory.{Slot}
use Rattle.dt_model.specs.Positions.{StoredTensor}
use Rattle.dt_nest.specs.Run.{Run}
use Rattle.dt_nest.specs.Visits.{Item}
use Rattle.dt_leaf.specs.NodeWords.{CanDoLast, GoesOver, IsShortItem, LeavesRest, after_last, cells_in, frame_of}
use Rattle.dt_plan.specs.declared.kind.Kind.TheVariants as kind
use Rattle.dt_plan.specs.declared.ops.Op.{Op}
use Rattle.dt_plan.specs.declared.parts.Part.{Part}
use Rattle.dt_plan.specs.Layouts.{Layout}
use Rattle.dt_plan.specs.Bounds.{buffers_of}
use Rattle.dt_plan.specs.Operations.{items_of, ops_of}
use Rattle.dt_events.specs.Jobs.{op_at}
use Rattle.dt_events.specs.State.{State}
use Rattle.dt_events.specs.Units.{can_by, item_can, item_next, next_by, of_unit}
use Rattle.dt_sim.specs.Memories.{memory_at, state_in}
use Rattle.dt_sim.specs.TaskItems.{IsItemDue, IsTaskOver}
use Rattle.dt_sim.specs.UnitsDone.{DoesUnit, IsDue}
use Rattle.dt_sim.proofs.Rooms.{room_of}
use Rattle.dt_sim.proofs.TaskDone.{item_done, item_ready}

-- the part and the item of a task's unit
pub record IsTaskOf (l : Layout) (o : Op) (r : Run) (mems : List (List Slot)) (slots : List ℕ) (room : ℕ) : Type 0 where
  pub part : Part
  pub item : Item
  pub due : IsItemDue l o part r item mems slots
  pub values : room ≡ length part.sched.names

-- a kind's unit is that of the operation of this kind
kind_can : (l : Layout) (a i : ℕ) (mems : List (List Slot)) → IsDue l a kind.Task i mems → item_can l (op_at (ops_of l) a) (slice_get l.parts (op_at (ops_of l) a).stmt) (of_unit (items_of l (op_at (ops_of l) a)) i) (state_in (buffers_of l) mems) ≡ true
kind_can l a i mems due = ap (λ k. can_by k l (op_at (ops_of l) a) i (state_in (buffers_of l) mems)) (sym due.kind) ∙ due.can

pub task_of : (l : Layout) (a unit : ℕ) (r : Run) (mems : List (List Slot)) (slots : List ℕ) (room : ℕ) → IsDue l a kind.Task (unit + 1) mems
    → r.last ≡ of_unit (items_of l (op_at (ops_of l) a)) (unit + 1) → IsTaskOver l (op_at (ops_of l) a) r mems slots room → IsTaskOf l (op_at (ops_of l) a) r mems slots room
task_of l a unit r mems slots room due last over =
    go (slice_get l.parts o.stmt) refl r.last refl
    (ap (λ (i : Option Item). item_can l o (slice_get l.parts o.stmt) i (state_in (buffers_of l) mems)) last ∙ kind_can l a (unit + 1) mems due) over.over over.short
  where
    o : Op
    o = op_at (ops_of l) a

    go : (q : Option Part) → slice_get l.parts o.stmt ≡ q → (i : Option Item) → r.last ≡ i → item_can l o q i (state_in (buffers_of l) mems) ≡ true → IfSome q (λ p. GoesOver r p.sched l.stored × (room ≡ length p.sched.names)) → IfSome i IsShortItem
        → IsTaskOf l o r mems slots room
    go None e i f h v s = absurd (cc)
    go (Some p) e None f h v s = absurd (cc)
    go (Some p) e (Some item) f h v s =
        record { part = p; item = item; due = record { part = e; over = v.0; last = f; short = s; can = h; node = over.node; buffers = over.buffers; named = over.named }; values = v.1 }

-- the part is there
pub part_within : (l : Layout) (o : Op) (r : Run) (mems : List (List Slot)) (slots : List ℕ) (room : ℕ) → IsTaskOf l o r mems slots room → o.stmt < length l.parts
part_within l o r mems slots room t = slice_get_within l.parts o.stmt t.part t.due.part

-- what a node's memory leaves has the rooms that it had
rooms_left : (slots : List ℕ) (before after : List Slot) → LeavesRest slots before after → map room_of after ≡ map room_of before
rooms_left slots before after h = sym (rooms after) ∙ ap (map (λ (f : ℕ × ℕ × Option (List ℕ)). (f.0, f.1))) h.layout ∙ rooms before
  where
    rooms : (m : List Slot) → map (λ (f : ℕ × ℕ × Option (List ℕ)). (f.0, f.1)) (map frame_of m) ≡ map room_of m
    rooms [] = refl
    rooms (s ∷ m) = ap (λ x. room_of s ∷ x) (rooms m)

-- the unit is done where its item is
pub unit_done : (l : Layout) (a unit : ℕ) (r : Run) (mems : List (List Slot)) (slots : List ℕ) (after : List Slot) (p : Part) (item : Item) → IsDue l a kind.Task (unit + 1) mems
    → r.last ≡ of_unit (items_of l (op_at (ops_of l) a)) (unit + 1) → IsItemDue l (op_at (ops_of l) a) p r item mems slots
    → state_in (buffers_of l) (slice_set mems (op_at (ops_of l) a).node after) ≡ item_next l (op_at (ops_of l) a) (Some p) (Some item) (state_in (buffers_of l) mems)
    → LeavesRest slots (memory_at mems (op_at (ops_of l) a).node) after → DoesUnit l a (unit + 1) mems (slice_set mems (op_at (ops_of l) a).node after)
unit_done l a unit r mems slots after p item due last is state rest = record {
  state = state ∙ ap (λ (q : Option Part). item_next l o q (Some item) s) (sym is.part) ∙ ap (λ (i : Option Item). item_next l o (slice_get l.parts o.stmt) i s) (sym is.last ∙ last)
      ∙ ap (λ k. next_by k l o (unit + 1) s) (sym due.kind);
  rooms = map-set_same (map room_of) mems o.node after [] (rooms_left slots (memory_at mems o.node) after rest);
}
  where
    o : Op
    o = op_at (ops_of l) a

    s : State
    s = state_in (buffers_of l) mems

-- In code ----------------------------------------------------------------------------------------------------------------

module _ (l : Layout) (a unit : ℕ) (r : Run) (mems : List (List Slot)) (slots : List ℕ) (room : ℕ) (due : IsDue l a kind.Task (unit + 1) mems) (last : r.last ≡ of_unit (items_of l (op_at (ops_of l) a)) (unit + 1)) (over : IsTaskOver l (op_at (ops_of l) a) r mems slots room)
    (stored : List StoredTensor) (parts : List Part) (op : Op) (d : Part) (mem : List Slot) (same_stored : stored ≡ l.stored) (same_parts : parts ≡ l.parts) (same_op : op ≡ op_at (ops_of l) a) (read : mem ≡ get_or mems op.node mem) where
  abbrev o : Op
  o = op_at (ops_of l) a

  t : IsTaskOf l o r mems slots room
  t = task_of l a unit r mems slots room due last over

  -- the part that is read is the task's
  part_same : get_or parts op.stmt d ≡ t.part
  part_same =
      ap (λ (ps : List Part). get_or ps op.stmt d) same_parts ∙ ap (λ (x : Op). get_or l.parts x.stmt d) same_op
      ∙ same_Some (get_or l.parts o.stmt d) t.part (sym (slice_get-get_or l.parts o.stmt d (part_within l o r mems slots room t)) ∙ t.due.part)

  -- and the memory is that of its node
  mem_same : mem ≡ memory_at mems o.node
  mem_same = read ∙ ap (λ (x : Op). get_or mems x.node mem) same_op ∙ get_or_default mems o.node mem [] over.node

  pub can_do_last : CanDoLast stored (get_or parts op.stmt d).sched (cells_in mem slots) r.last
  can_do_last =
      subst (λ (ts : List StoredTensor). CanDoLast ts (get_or parts op.stmt d).sched (cells_in mem slots) r.last) (sym same_stored)
      (subst (λ (p : Part). CanDoLast l.stored p.sched (cells_in mem slots) r.last) (sym part_same)
      (subst (λ (m : List Slot). CanDoLast l.stored t.part.sched (cells_in m slots) r.last) (sym mem_same) (item_ready l o t.part r t.item mems slots t.due)))

  pub has_room : room ≡ length (get_or parts op.stmt d).sched.names
  has_room = t.values ∙ ap (λ (p : Part). length p.sched.names) (sym part_same)

  pub does_unit : (after : List Slot) → cells_in after slots ≡ after_last stored (get_or parts op.stmt d).sched r.last (cells_in mem slots) → LeavesRest slots mem after → DoesUnit l a (unit + 1) mems (slice_set mems op.node after)
  does_unit after cells rest =
      let left : LeavesRest slots (memory_at mems o.node) after = subst (λ (m : List Slot). LeavesRest slots m after) mem_same rest in
      let done : cells_in after slots ≡ after_last l.stored t.part.sched r.last (cells_in (memory_at mems o.node) slots) =
      cells ∙ ap (λ (ts : List StoredTensor). after_last ts (get_or parts op.stmt d).sched r.last (cells_in mem slots)) same_stored
      ∙ ap (λ (p : Part). after_last l.stored p.sched r.last (cells_in mem slots)) part_same
      ∙ ap (λ (m : List Slot). after_last l.stored t.part.sched r.last (cells_in m slots)) mem_same in
      subst (λ (x : Op). DoesUnit l a (unit + 1) mems (slice_set mems x.node after)) (sym same_op)
      (unit_done l a unit r mems slots after t.part t.item due last t.due (item_done l o t.part r t.item mems slots t.due after done left) left)
