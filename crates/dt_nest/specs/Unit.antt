-- What one unit of a task does to the words of its node: a reset, or the visit of a leaf.
use Rattle.std.specs.Prelude.{ℕ, ◌+◌, ◌-◌, ◌%◌, ◌^◌, Bool, true, ◌&&◌, List, length, map, Option, Some, None, is_some, unwrap_or, option_map, if◌then◌else◌, nat_eq, nat_lt, slice_get, sum_by}
use Rattle.std.specs.Option.{option_and_then}
use Rattle.std.specs.List.{list_all}
use Rattle.dt_base.specs.Rows.{row_major}
use Rattle.dt_model.specs.Positions.{StoredTensor, place_in, tensor_at}
use Rattle.dt_model.specs.declared.stmt.Access.{Access}
use Rattle.dt_nest.specs.Tree.{read_accesses}
use Rattle.dt_nest.specs.Schedule.{Schedule}
use Rattle.dt_nest.specs.Meaning.{Env, Entries, terms_of}
use Rattle.dt_nest.specs.World.{world_of}
use Rattle.dt_nest.specs.Visits.{LeafVisit, Item, IsReset, IsVisit, environments, value_in}

-- a cell of a task's node: one word of the buffer of a tensor or workspace, by its number in accesses, or the sign that
-- the buffer is present
pub data Cell : Type 0 where
  Word : (tensor word : ℕ) → Cell
  Sign : (tensor : ℕ) → Cell

-- the number in each cell that is present
abbrev pub State : Type 0
State = Cell → Option ℕ

-- the word of a tensor or workspace at these coordinates, where there is one: a position, or the row-major number among the
-- values of the workspace's loops
abbrev pub word_of : List StoredTensor → Schedule → ℕ → List ℕ → Option ℕ
word_of stored s t c =
    if nat_lt t (length s.tensors) then place_in (tensor_at stored t) c
    else option_and_then (λ w. row_major w.extents c) (slice_get s.works (t - length s.tensors))

-- the word is present, where there is one
abbrev pub is_held : State → ℕ → Option ℕ → Bool
is_held state t None = true
is_held state t (Some k) = is_some (state (Word t k))

-- the number of a word, and 0 where there is none
abbrev pub number_in : State → ℕ → Option ℕ → ℕ
number_in state t None = 0
number_in state t (Some k) = unwrap_or (state (Word t k)) 0

-- the numbers that accesses read
abbrev pub entries_in : List StoredTensor → Schedule → State → Entries
entries_in stored s state t c = number_in state t (word_of stored s t c)

-- whether each accessed word that is stored is present
abbrev pub are_held : List StoredTensor → Schedule → State → Env → List Access → Bool
are_held stored s state val accesses = list_all (λ a. is_held state a.tensor (word_of stored s a.tensor (map val a.vars))) accesses

-- what a visit adds: the sum of its terms, over the valid values of its substituted loop
abbrev pub added_by : List StoredTensor → Schedule → State → LeafVisit → ℕ
added_by stored s state visit =
    sum_by (λ val. terms_of (entries_in stored s state) val visit.leaf.terms) (environments (world_of stored s) s.derived visit)

-- the word that a visit writes
abbrev pub written_by : List StoredTensor → Schedule → LeafVisit → Option ℕ
written_by stored s visit =
    word_of stored s visit.leaf.lhs.tensor (map (value_in (world_of stored s) s.derived visit.pairs visit.slots) visit.leaf.lhs.vars)

-- the state where a word has grown
abbrev pub grown_at : State → ℕ → Option ℕ → ℕ → State
grown_at state t None d cell = state cell
grown_at state t (Some k) d (Sign u) = state (Sign u)
grown_at state t (Some k) d (Word u j) =
    if nat_eq u t && nat_eq j k then option_map (λ x. (x + d) % 2 ^ 64) (state (Word u j)) else state (Word u j)

-- the state where each word of a buffer is 0
abbrev pub cleared_at : State → ℕ → State
cleared_at state t (Sign u) = state (Sign u)
cleared_at state t (Word u j) = if nat_eq u t then option_map (λ x. 0) (state (Word u j)) else state (Word u j)

-- Whether the unit is defined: at a reset the workspace is present, at a leaf each accessed stored word.
unfoldable pub can_do : List StoredTensor → Schedule → Item → State → Bool
can_do stored s (IsReset work) state = is_some (state (Sign (length s.tensors + work)))
can_do stored s (IsVisit visit) state =
    is_held state visit.leaf.lhs.tensor (written_by stored s visit)
    && list_all (λ val. are_held stored s state val (read_accesses visit.leaf.terms)) (environments (world_of stored s) s.derived visit)

-- What the unit makes of a state: at a reset each word of the workspace becomes 0, at a leaf the written word grows.
unfoldable pub unit_of : List StoredTensor → Schedule → Item → State → State
unit_of stored s (IsReset work) state = cleared_at state (length s.tensors + work)
unit_of stored s (IsVisit visit) state = grown_at state visit.leaf.lhs.tensor (written_by stored s visit) (added_by stored s state visit)
