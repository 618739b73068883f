-- Where the accesses of a leaf stand at the points of a visit.
use Rattle.std.specs.Prelude.{◌≡◌, ℕ, ◌<◌, Bool, false, ◌&&◌, List, ◌∷◌, length, Option, Some, None, nat_lt}
use Rattle.std.specs.List.{AllByRecursion, filter, list_any, range_with_len}
use Rattle.dt_model.specs.Positions.{StoredTensor, IsStored, coords_at, tensor_at}
use Rattle.dt_model.specs.declared.stmt.Access.{Access}
use Rattle.dt_model.specs.declared.stmt.Term.{Term}
use Rattle.dt_nest.specs.declared.derivations.Derived.{Derived}
use Rattle.dt_nest.specs.Tree.{read_accesses}
use Rattle.dt_nest.specs.Meaning.{World, Env}
use Rattle.dt_nest.specs.World.{world_of}
use Rattle.dt_nest.specs.Visits.{Item, is_accessed, touches}
use Rattle.dt_nest.specs.Point.{HasValueAt, env_at, valid_of}
use Rattle.dt_nest.specs.Run.{Run, OnVisit, is_among}
use Rattle.dt_bounds.specs.Found.{Adds}

-- each variable of each access has a value at the point
abbrev pub AreValuedAt : Run → Option ℕ → List Access → Type 0
AreValuedAt r lane accesses = AllByRecursion (λ a. AllByRecursion (HasValueAt r lane) a.vars) accesses

-- whether one of the accesses stands at the position
abbrev pub is_reached : StoredTensor → ℕ → Env → List Access → ℕ → Bool
is_reached t tensor val accesses p = is_accessed tensor (coords_at t p) val accesses

-- whether an item, if there is one, touches the tensor at these coordinates
abbrev pub item_touches : World → List Derived → ℕ → List ℕ → Option Item → Bool
item_touches w ds tensor c None = false
item_touches w ds tensor c (Some item) = touches w ds tensor c item

-- whether the last item touches the position
abbrev pub last_touches : Run → StoredTensor → ℕ → ℕ → Bool
last_touches r t tensor p = item_touches (world_of r.stored r.sched) r.sched.derived tensor (coords_at t p) r.last

-- the new list has the numbers of the old one, and the positions at which one of the accesses stands
abbrev pub AddsReached : StoredTensor → ℕ → Env → List Access → List ℕ → List ℕ → Type 0
AddsReached t tensor val accesses old new = Adds (length t.coords) (is_reached t tensor val accesses) old new

-- the tensor is one of the list, and stores what its levels ask for
pub record IsTarget (stored : List StoredTensor) (tensor : ℕ) : Type 0 where
  pub exists : tensor < length stored
  pub levels : IsStored (tensor_at stored tensor)

-- the accesses of a leaf, the left one first
abbrev pub accesses_in : Access → List Term → List Access
accesses_in lhs terms = lhs ∷ read_accesses terms

-- the last visit is of a leaf with these accesses
abbrev pub IsVisitOf : Run → Access → List Term → Type 0
IsVisitOf r lhs terms = OnVisit r.last (λ visit. (visit.leaf.lhs ≡ lhs) × (visit.leaf.terms ≡ terms))

-- whether x is a valid value of the last visit, at which one of the accesses stands at the position
abbrev pub is_lane_reached : Run → StoredTensor → ℕ → List Access → ℕ → ℕ → Bool
is_lane_reached r t tensor accesses x p = is_among x (valid_of r) && is_reached t tensor (env_at r (Some x)) accesses p

-- whether a position of the tensor is touched by one of the items
abbrev pub is_touched : World → List Derived → StoredTensor → ℕ → List Item → ℕ → Bool
is_touched w ds t tensor items p = nat_lt p (length t.coords) && list_any (touches w ds tensor (coords_at t p)) items

-- whether one of the accesses stands at the position at some valid value below a number
abbrev pub is_some_lane_reached : Run → StoredTensor → ℕ → List Access → ℕ → ℕ → Bool
is_some_lane_reached r t tensor accesses n p = list_any (λ x. is_reached t tensor (env_at r (Some x)) accesses p) (filter (λ x. is_among x (valid_of r)) (range_with_len 0 n))
