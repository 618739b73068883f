-- Laws of the units of a task: where they are defined.
use Rattle.std.specs.Prelude.{◌≡◌, ◌≢◌, ℕ, ◌+◌, ◌%◌, ◌^◌, ◌<◌, Bool, true, false, ◌&&◌, List, [], ◌∷◌, length, None, Some, is_some, slice_get}
use Rattle.std.specs.List.{AllByRecursion}
use Rattle.dt_base.specs.Rows.{product, row_major}
use Rattle.dt_model.specs.Positions.{StoredTensor, place_in, tensor_at}
use Rattle.dt_model.specs.WholeTensor.{WholeTensor}
use Rattle.dt_runs.specs.Sets.{contains}
use Rattle.dt_nest.specs.declared.parts.Work.{Work}
use Rattle.dt_nest.specs.Schedule.{Schedule}
use Rattle.dt_nest.specs.Lawful.{IsLawful}
use Rattle.dt_nest.specs.Visits.{Item, IsReset, IsVisit, visits_of, needed_of, IsPath}
use Rattle.dt_nest.specs.Unit.{State, Word, Sign, word_of, written_by, can_do, unit_of}
use Rattle.dt_nest.specs.Meaning.{Entries}
use Rattle.dt_nest.specs.World.{world_of, Fits}
use Rattle.dt_nest.specs.Effects.{entries_after}
use Rattle.dt_nest.specs.Outputs.{output_of, IsUnread}
use Rattle.dt_nest.specs.Paths.{sum_on}

-- a node holds the words of each tensor that are needed under a path, and the words and the sign of each workspace
pub record HoldsNeeded (stored : List StoredTensor) (s : Schedule) (p : List ℕ) (state : State) : Type 0 where
  pub words : (t w : ℕ) → t < length s.tensors → contains (needed_of stored s t p) w ≡ true → is_some (state (Word t w)) ≡ true
  pub works : (u k : ℕ) (x : Work) → slice_get s.works u ≡ Some x → k < product x.extents → is_some (state (Word (length s.tensors + u) k)) ≡ true
  pub signs : (u : ℕ) → u < length s.works → is_some (state (Sign (length s.tensors + u))) ≡ true

-- Then the unit of each of its visits is defined.
abbrev pub UnitsAreDefined : Type 0
UnitsAreDefined =
    (stored : List StoredTensor) (s : Schedule) (p : List ℕ) (state : State) → IsLawful s → HoldsNeeded stored s p state → AllByRecursion (λ item. can_do stored s item state ≡ true) (visits_of stored s p)

-- And after any unit the node still holds them.
abbrev pub UnitsKeepHeld : Type 0
UnitsKeepHeld =
    (stored : List StoredTensor) (s : Schedule) (p : List ℕ) (item : Item) (state : State) → HoldsNeeded stored s p state → HoldsNeeded stored s p (unit_of stored s item state)

-- the state after some units
abbrev pub units_after : List StoredTensor → Schedule → List Item → State → State
units_after stored s [] state = state
units_after stored s (item ∷ items) state = units_after stored s items (unit_of stored s item state)

-- each unit is defined where the ones before it have run
abbrev pub all_can : List StoredTensor → Schedule → List Item → State → Bool
all_can stored s [] state = true
all_can stored s (item ∷ items) state = can_do stored s item state && all_can stored s items (unit_of stored s item state)

-- So it is for the units of a task whose node holds what is needed.
abbrev pub TasksAreDefined : Type 0
TasksAreDefined = (stored : List StoredTensor) (s : Schedule) (p : List ℕ) (state : State) → IsLawful s → HoldsNeeded stored s p state → all_can stored s (visits_of stored s p) state ≡ true

-- A node's words have the numbers of some entries: those of a tensor that are needed under a path, and those of workspaces. The
-- entries are 0 where there is no word.
pub record Carries (stored : List StoredTensor) (s : Schedule) (p : List ℕ) (state : State) (x : Entries) : Type 0 where
  pub held : (t : ℕ) (c : List ℕ) (k : ℕ) → word_of stored s t c ≡ Some k → (t < length s.tensors → contains (needed_of stored s t p) k ≡ true) → state (Word t k) ≡ Some (x t c)
  pub none : (t : ℕ) (c : List ℕ) → word_of stored s t c ≡ None → x t c ≡ 0

-- there is a word where the item adds
abbrev pub HasLeft : List StoredTensor → Schedule → Item → Type 0
HasLeft stored s (IsReset work) = Unit {0}
HasLeft stored s (IsVisit visit) = is_some (written_by stored s visit) ≡ true

-- After the units of a task the node's words have the numbers of the entries after its visits.
abbrev pub UnitsFollowEffects : Type 0
UnitsFollowEffects =
    (stored : List StoredTensor) (s : Schedule) (p : List ℕ) (state : State) (x : Entries) → AllByRecursion (HasLeft stored s) (visits_of stored s p) → Carries stored s p state x
    → Carries stored s p (units_after stored s (visits_of stored s p) state) (entries_after (world_of stored s) s.derived (visits_of stored s p) x)

-- A later state has what an earlier one had in each cell but the words of workspaces, and the words of the left tensor that are
-- needed under a path.
pub record LeavesOthers (stored : List StoredTensor) (s : Schedule) (p : List ℕ) (old new : State) : Type 0 where
  pub signs : (t : ℕ) → new (Sign t) ≡ old (Sign t)
  pub others : (t k : ℕ) → t < length s.tensors → t ≢ output_of s.nest → new (Word t k) ≡ old (Word t k)
  pub unneeded : (k : ℕ) → contains (needed_of stored s (output_of s.nest) p) k ≡ false → new (Word (output_of s.nest) k) ≡ old (Word (output_of s.nest) k)

-- So it is after the units of a task.
abbrev pub TasksLeaveOthers : Type 0
TasksLeaveOthers = (stored : List StoredTensor) (s : Schedule) (p : List ℕ) (state : State) → IsLawful s → LeavesOthers stored s p state (units_after stored s (visits_of stored s p) state)

-- And each needed word of the left tensor has grown by the path's sum, modulo 2 ^ 64.
abbrev pub TasksAddTheSum : Type 0
TasksAddTheSum =
    (s : Schedule) (stored : List StoredTensor) (p : List ℕ) (state : State) (x : Entries) → IsLawful s → IsUnread (output_of s.nest) s.nest → IsPath s p
    → AllByRecursion (HasLeft stored s) (visits_of stored s p) → Carries stored s p state x
    → (c : List ℕ) (k : ℕ) → word_of stored s (output_of s.nest) c ≡ Some k → contains (needed_of stored s (output_of s.nest) p) k ≡ true → x (output_of s.nest) c < 2 ^ 64
    → units_after stored s (visits_of stored s p) state (Word (output_of s.nest) k) ≡ Some ((x (output_of s.nest) c + sum_on stored s p x c) % 2 ^ 64)

-- each index within the tensor's extents has a position
abbrev pub StoresAll : StoredTensor → Type 0
StoresAll t = (c : List ℕ) → place_in t c ≡ None → row_major t.extents c ≡ None

-- Where the left tensor stores all, there is a word wherever a visit under a path adds.
abbrev pub VisitsHaveLeft : Type 0
VisitsHaveLeft =
    (s : Schedule) (stored : List StoredTensor) (tensors : List WholeTensor) (p : List ℕ) → IsLawful s → Fits stored tensors s → IsPath s p → StoresAll (tensor_at stored (output_of s.nest))
    → AllByRecursion (HasLeft stored s) (visits_of stored s p)
