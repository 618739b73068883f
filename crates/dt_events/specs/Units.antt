-- One unit of an operation: whether a state defines it, and what it makes of the state.
use Rattle.std.specs.Prelude.{ℕ, zero, suc, Bool, false, not, ◌&&◌, List, ◌∷◌, [], Option, Some, None, is_some, nat_eq, slice_get}
use Rattle.dt_nest.specs.Unit as own
use Rattle.dt_nest.specs.Visits.{Item}
use Rattle.dt_plan.specs.declared.kind.Kind.{Kind}
use Rattle.dt_plan.specs.declared.kind.Kind.TheVariants as kind
use Rattle.dt_plan.specs.declared.ops.Op.{Op}
use Rattle.dt_plan.specs.declared.parts.Part.{Part}
use Rattle.dt_plan.specs.declared.touches.Buffer.{Buffer}
use Rattle.dt_plan.specs.declared.touches.Buffer.TheVariants.{Home}
use Rattle.dt_plan.specs.Layouts.{Layout}
use Rattle.dt_plan.specs.Operations.{items_of}
use Rattle.dt_plan.specs.Footprints.{buffer_by}
use Rattle.dt_events.specs.State.{Word, Sign, State, number_at, overwritten, added_to, with_buffer, without_buffer, own_of, with_own}

-- an element of a list by its number from 1
abbrev pub of_unit : {A : Type 0} → List A → ℕ → Option A
of_unit xs zero = None
of_unit xs (suc i) = slice_get xs i

-- the buffer of the operation's statement: scratch, or a workspace
abbrev pub scratch_of : Layout → Op → Buffer
scratch_of l o = buffer_by l o.stmt o.tensor

-- whether a word is present in two buffers
abbrev pub are_present : ℕ → Buffer → ℕ → Buffer → Option ℕ → State → Bool
are_present n b m c None s = false
are_present n b m c (Some w) s = is_some (s (Word n b w)) && is_some (s (Word m c w))

-- whether a task's item is defined in a part, by what the task sees
abbrev pub item_can : Layout → Op → Option Part → Option Item → State → Bool
item_can l o None item s = false
item_can l o (Some p) None s = false
item_can l o (Some p) (Some item) s = own.can_do l.stored p.sched item (own_of l o.stmt o.node s)

-- Whether unit i, from 1, is defined: a zero and a free find their buffer present, an alloc finds it absent, a copy and a fold
-- find word i present in both buffers, and a task's item i is defined.
abbrev pub can_by : Kind → Layout → Op → ℕ → State → Bool
can_by kind.Zero l o i s = nat_eq i 1 && is_some (s (Sign o.node (Home o.tensor)))
can_by kind.Alloc l o i s = nat_eq i 1 && not (is_some (s (Sign o.node (scratch_of l o))))
can_by kind.Copy l o i s = are_present o.other (Home o.tensor) o.node (scratch_of l o) (of_unit o.words i) s
can_by kind.Task l o i s = item_can l o (slice_get l.parts o.stmt) (of_unit (items_of l o) i) s
can_by kind.Fold l o i s = are_present o.node (scratch_of l o) o.other (Home o.tensor) (of_unit o.words i) s
can_by kind.Free l o i s = nat_eq i 1 && is_some (s (Sign o.node (scratch_of l o)))

-- the state where a word of the second buffer is that of the first
abbrev pub copied : ℕ → Buffer → ℕ → Buffer → Option ℕ → State → State
copied n b m c None s = s
copied n b m c (Some w) s = overwritten m c (w ∷ []) (number_at s (Word n b w)) s

-- the state where it has grown by that
abbrev pub folded : ℕ → Buffer → ℕ → Buffer → Option ℕ → State → State
folded n b m c None s = s
folded n b m c (Some w) s = added_to m c (w ∷ []) (number_at s (Word n b w)) s

-- the state after a task's item
abbrev pub item_next : Layout → Op → Option Part → Option Item → State → State
item_next l o None item s = s
item_next l o (Some p) None s = s
item_next l o (Some p) (Some item) s = with_own l o.stmt o.node (own.unit_of l.stored p.sched item (own_of l o.stmt o.node s)) s

-- What unit i makes of a state: a zero's words are 0, an alloc's buffer is present with its words, all 0, a copy's word i is the
-- home's, a fold's word i of the home has grown by the scratch's, a free's buffer is absent, and a task's item i has run.
abbrev pub next_by : Kind → Layout → Op → ℕ → State → State
next_by kind.Zero l o i s = overwritten o.node (Home o.tensor) o.words 0 s
next_by kind.Alloc l o i s = with_buffer o.node (scratch_of l o) o.words s
next_by kind.Copy l o i s = copied o.other (Home o.tensor) o.node (scratch_of l o) (of_unit o.words i) s
next_by kind.Task l o i s = item_next l o (slice_get l.parts o.stmt) (of_unit (items_of l o) i) s
next_by kind.Fold l o i s = folded o.node (scratch_of l o) o.other (Home o.tensor) (of_unit o.words i) s
next_by kind.Free l o i s = without_buffer o.node (scratch_of l o) s

-- whether a state defines unit i of an operation
abbrev pub can_do : Layout → Op → ℕ → State → Bool
can_do l o i s = can_by o.kind l o i s

-- what it makes of the state
abbrev pub next_of : Layout → Op → ℕ → State → State
next_of l o i s = next_by o.kind l o i s
