-- Units of operations that are done on the memories of the nodes.
use Rattle.std.specs.Prelude.{◌≡◌, ℕ, ◌<◌, true, List, length, map, Some}
use Rattle.dt_mem.specs.Memory.{Slot}
use Rattle.dt_plan.specs.declared.kind.Kind.{Kind}
use Rattle.dt_plan.specs.declared.touches.Buffer.{Buffer}
use Rattle.dt_plan.specs.declared.touches.Buffer.TheVariants.{Home}
use Rattle.dt_plan.specs.Layouts.{Layout}
use Rattle.dt_plan.specs.Operations.{ops_of}
use Rattle.dt_plan.specs.Bounds.{buffers_of}
use Rattle.dt_events.specs.Units.{can_do, next_of, scratch_of}
use Rattle.dt_events.specs.State.{overwritten}
use Rattle.dt_events.specs.Jobs.{op_at}
use Rattle.dt_sim.specs.Memories.{number_in, state_in}

-- the room and the cost of each buffer of each node
abbrev pub rooms_of : List (List Slot) → List (List (ℕ × ℕ))
rooms_of mems = map (map (λ (s : Slot). (s.room, s.cost))) mems

-- the number that the home of an operation's tensor has among a node's buffers
abbrev pub IsHome : Layout → ℕ → ℕ → Type 0
IsHome l a k = number_in (buffers_of l) (Home (op_at (ops_of l) a).tensor) ≡ Some k

-- the number that its scratch or workspace has
abbrev pub IsScratch : Layout → ℕ → ℕ → Type 0
IsScratch l a k = number_in (buffers_of l) (scratch_of l (op_at (ops_of l) a)) ≡ Some k

-- a unit of an operation of this kind, which the memories can do
pub record IsDue (l : Layout) (a : ℕ) (what : Kind) (i : ℕ) (mems : List (List Slot)) : Type 0 where
  pub exists : a < length (ops_of l)
  pub kind : (op_at (ops_of l) a).kind ≡ what
  pub can : can_do l (op_at (ops_of l) a) i (state_in (buffers_of l) mems) ≡ true

-- The unit is done: the state of the memories is what it makes of the state before. Each buffer has the room that it had.
pub record DoesUnit (l : Layout) (a i : ℕ) (old new : List (List Slot)) : Type 0 where
  pub state : state_in (buffers_of l) new ≡ next_of l (op_at (ops_of l) a) i (state_in (buffers_of l) old)
  pub rooms : rooms_of new ≡ rooms_of old

-- Words of a buffer of a node become 0, those that are present.
pub record Zeroes (n k : ℕ) (words : List ℕ) (old new : List (List Slot)) : Type 0 where
  pub state : (buffers : List Buffer) (b : Buffer) → number_in buffers b ≡ Some k → state_in buffers new ≡ overwritten n b words 0 (state_in buffers old)
  pub rooms : rooms_of new ≡ rooms_of old
