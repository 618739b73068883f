-- A node that holds each word of a schedule, and the visits that are done on it.
use Rattle.std.specs.Prelude.{◌≡◌, ℕ, ◌+◌, ◌<◌, true, List, length, Some, is_some, slice_get}
use Rattle.std.specs.List.{AllByRecursion}
use Rattle.dt_base.specs.Rows.{product}
use Rattle.dt_mem.specs.Memory.{Slot}
use Rattle.dt_model.specs.Positions.{StoredTensor, tensor_at}
use Rattle.dt_nest.specs.declared.parts.Work.{Work}
use Rattle.dt_nest.specs.Schedule.{Schedule}
use Rattle.dt_nest.specs.Run.{Run}
use Rattle.dt_nest.specs.Unit.{State, Sign, Word}
use Rattle.dt_bounds.specs.TaskUnits.{all_can}
use Rattle.dt_leaf.specs.NodeWords.{GoesOver, IsShortItem}

-- each slot names a buffer of the memory
abbrev pub AreThere : List ℕ → List Slot → Type 0
AreThere slots mem = (t b : ℕ) → slice_get slots t ≡ Some b → b < length mem

-- a node has each word below a number of a tensor or workspace
abbrev pub HoldsBelow : State → ℕ → ℕ → Type 0
HoldsBelow state t count = (w : ℕ) → w < count → is_some (state (Word t w)) ≡ true

-- A node has each word of the tensors and workspaces of a schedule, and the buffer of each workspace.
pub record HoldsAll (stored : List StoredTensor) (s : Schedule) (state : State) : Type 0 where
  pub words : (t : ℕ) → t < length s.tensors → HoldsBelow state t (length (tensor_at stored t).coords)
  pub works : (u : ℕ) (x : Work) → slice_get s.works u ≡ Some x → HoldsBelow state (length s.tensors + u) (product x.extents)
  pub signs : (u : ℕ) → u < length s.works → is_some (state (Sign (length s.tensors + u))) ≡ true

-- A run over the visits of a schedule, each of which can be done where the ones before it have been.
pub record IsReady (stored : List StoredTensor) (s : Schedule) (r : Run) (state : State) : Type 0 where
  pub over : GoesOver r s stored
  pub short : AllByRecursion IsShortItem r.left
  pub can : all_can stored s r.left state ≡ true
