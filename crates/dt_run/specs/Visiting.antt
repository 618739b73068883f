-- A schedule's visits on whole tensors: when they may run, and what they make of the tensors.
use Rattle.std.specs.Prelude.{◌≡◌, ℕ, ◌<◌, ◌≤◌, ◌^◌, All, Bool, List, [], ◌∷◌, length, map, option_map, Some, unwrap_or, slice_get, slice_index, slice_set}
use Rattle.std.specs.List.{AllByRecursion}
use Rattle.dt_base.specs.Ranges.{assignments}
use Rattle.dt_model.specs.Ring.{ring_add}
use Rattle.dt_model.specs.WholeTensor.{WholeTensor, number_at, zero_tensor}
use Rattle.dt_model.specs.Positions.{StoredTensor}
use Rattle.dt_model.specs.Stmts.{shapes_of}
use Rattle.dt_model.specs.declared.stmt.Access.{Access}
use Rattle.dt_model.specs.declared.stmt.Stmt.{Stmt}
use Rattle.dt_nest.specs.Tree.{read_accesses}
use Rattle.dt_nest.specs.Schedule.{Schedule}
use Rattle.dt_nest.specs.Meaning.{Entries}
use Rattle.dt_nest.specs.World.{Fits, world_of, entries_of, sum_of}
use Rattle.dt_nest.specs.Outputs.{output_of, IsUnread}
use Rattle.dt_nest.specs.Chain.{MeansStmt}
use Rattle.dt_nest.specs.Effects.{entries_after}
use Rattle.dt_nest.specs.Visits.{LeafNode, Item, IsReset, IsVisit}
use Rattle.dt_nest.specs.Run.{Run, SameNest}

-- A schedule without workspaces, over tensors that fit it, whose left tensor no leaf reads.
pub record IsRunnable (stored : List StoredTensor) (tensors : List WholeTensor) (s : Schedule) : Type 0 where
  pub fits : Fits stored tensors s
  pub workless : s.works ≡ []
  pub unread : IsUnread (output_of s.nest) s.nest

-- A statement that the schedule means, with its left tensor, and with `+=` where the part adds.
pub record IsStmtOf (stmt : Stmt) (s : Schedule) (adds : Bool) : Type 0 where
  pub means : MeansStmt stmt s
  pub left : stmt.lhs.tensor ≡ output_of s.nest
  pub same : stmt.adds ≡ adds

-- the left tensor with what the schedule adds at each index
abbrev pub left_with_sum : List StoredTensor → Schedule → List WholeTensor → WholeTensor → WholeTensor
left_with_sum stored s tensors left =
    record { extents = left.extents; values = map (λ c. ring_add (unwrap_or (number_at left c) 0) (sum_of stored tensors s c)) (assignments left.extents) }

-- the tensors after a schedule's visits: all but the left one stay
abbrev pub tensors_with_sum : List StoredTensor → Schedule → List WholeTensor → List WholeTensor
tensors_with_sum stored s tensors =
    unwrap_or (option_map (λ left. slice_set tensors (output_of s.nest) (left_with_sum stored s tensors left)) (slice_get tensors (output_of s.nest))) tensors

-- the tensors with zeros in the one with this number
abbrev pub tensors_cleared : ℕ → List WholeTensor → List WholeTensor
tensors_cleared t tensors = unwrap_or (option_map (λ left. slice_set tensors t (zero_tensor left.extents)) (slice_get tensors t)) tensors

-- An access over tensors of these shapes: at most four variables, of small extents, which the tensor has.
pub record IsAccessOver (shapes : List (List ℕ)) (extents : List ℕ) (a : Access) : Type 0 where
  pub few : length a.vars ≤ 4
  pub small : All (λ u. slice_index extents u ≤ 4096) a.vars
  pub fits : slice_get shapes a.tensor ≡ Some (map (slice_index extents) a.vars)

-- A leaf over tensors of these shapes, which writes the schedule's left tensor.
pub record IsLeafOver (shapes : List (List ℕ)) (s : Schedule) (leaf : LeafNode) : Type 0 where
  pub left : leaf.lhs.tensor ≡ output_of s.nest
  pub accesses : AllByRecursion (IsAccessOver shapes s.extents) (leaf.lhs ∷ read_accesses leaf.terms)

-- so is the leaf of an item
abbrev pub IsItemOver : List (List ℕ) → Schedule → Item → Type 0
IsItemOver shapes s (IsReset work) = Unit {0}
IsItemOver shapes s (IsVisit visit) = IsLeafOver shapes s visit.leaf

-- A run whose items that are left are over these tensors, one for each name, and whose extents are numbers of 32 bits.
pub record IsReady (r : Run) (tensors : List WholeTensor) : Type 0 where
  pub small : (u : ℕ) → slice_index r.sched.extents u < 2 ^ 32
  pub count : length tensors ≡ length r.sched.tensors
  pub items : AllByRecursion (IsItemOver (shapes_of tensors) r.sched) r.left

-- what the items that a run has left make of the numbers of tensors
abbrev pub end_of : Run → List WholeTensor → Entries
end_of r tensors = entries_after (world_of r.stored r.sched) r.sched.derived r.left (entries_of tensors)

-- A run has gone on, and what all its items make of the tensors is still to come: all but the left one stay.
pub record HasGoneOn (old new : Run) (before after : List WholeTensor) : Type 0 where
  pub same : SameNest old new
  pub ready : IsReady new after
  pub end : end_of new after ≡ end_of old before
  pub others : (d : WholeTensor) → slice_set after (output_of old.sched.nest) d ≡ slice_set before (output_of old.sched.nest) d
  pub shapes : shapes_of after ≡ shapes_of before
