-- A run over the visits of a schedule: the last item that it gave, and the items that it has left.
use Rattle.std.specs.Prelude.{◌≡◌, ℕ, ◌+◌, ◌<◌, ◌≤◌, Bool, true, List, [], ◌∷◌, ◌++◌, length, map, filter, drop, Option, Some, None, MatchOption, option_map, nat_eq, slice_set}
use Rattle.std.specs.List.{AllByRecursion, list_any, range_with_len}
use Rattle.dt_model.specs.Positions.{StoredTensor}
use Rattle.dt_nest.specs.declared.derivations.Derived.{Derived}
use Rattle.dt_nest.specs.declared.loops.Pair.{Pair}
use Rattle.dt_nest.specs.declared.progress.Visit.{Visit}
use Rattle.dt_nest.specs.declared.progress.Visit.TheVariants as v
use Rattle.dt_nest.specs.declared.progress.Progress.{Progress}
use Rattle.dt_nest.specs.declared.progress.Progress.TheVariants.{Before, Resetting, On, Done}
use Rattle.dt_nest.specs.Tree.{Tree, leaf_count, read_accesses}
use Rattle.dt_nest.specs.Schedule.{Schedule}
use Rattle.dt_nest.specs.Meaning.{renamed}
use Rattle.dt_nest.specs.World.{world_of}
use Rattle.dt_nest.specs.Lawful.{Loops, also, Follows, IsLawful}
use Rattle.dt_nest.specs.Values.{inside_tests}
use Rattle.dt_nest.specs.FitsStored.{FitsStored}
use Rattle.dt_nest.specs.Visits.{LeafNode, Lanes, at_root, LeafVisit, Item, IsReset, IsVisit, Tests, value_in, tree_visits, visits_of, IsPath}
use Rattle.dt_nest.specs.Search.{AreZero, IsAt, works_at, item_at, after}
use Rattle.dt_nest.specs.Branch.{leaf_tree, visit_at}

-- A run: the schedule, the stored tensors, the last item, and the items that are left.
pub record Run : Type 0 where
  pub sched : Schedule
  pub stored : List StoredTensor
  pub last : Option Item
  pub left : List Item

-- the run before its first item
abbrev pub run_over : List StoredTensor → Schedule → List ℕ → Run
run_over stored s path = record { sched = s; stored = stored; last = None; left = visits_of stored s path }

-- the answer that an item is
abbrev pub answer_of : Item → Visit
answer_of (IsReset work) = v.Reset work
answer_of (IsVisit visit) = v.Leaf

-- what is left begins with the item of the answer, and then it is the last item; where nothing is left there is none
abbrev pub Goes : Run → Option Visit → Run → Type 0
Goes old None new = (old.left ≡ []) × (new.last ≡ None) × (new.left ≡ [])
Goes old (Some (v.Reset work)) new = (old.left ≡ IsReset work ∷ new.left) × (new.last ≡ Some (IsReset work))
Goes old (Some v.Leaf) new = (visit : LeafVisit) × (old.left ≡ IsVisit visit ∷ new.left) × (new.last ≡ Some (IsVisit visit))

-- the run goes over the same schedule and tensors
abbrev pub SameNest : Run → Run → Type 0
SameNest old new = (new.sched ≡ old.sched) × (new.stored ≡ old.stored)

-- the item is the visit of a leaf, with this fact
abbrev pub OnVisit : Option Item → (LeafVisit → Type 0) → Type 0
OnVisit None P = ⊥
OnVisit (Some (IsReset work)) P = ⊥
OnVisit (Some (IsVisit visit)) P = P visit

-- the last item is the visit of a leaf
abbrev pub IsAtLeaf : Run → Type 0
IsAtLeaf r = OnVisit r.last (λ visit. Unit {0})

-- the last item is the visit of a substituted loop, with this fact
abbrev pub OnLanes : Run → (Lanes → Type 0) → Type 0
OnLanes r P = OnVisit r.last (λ visit. MatchOption visit.lanes ⊥ P)

-- a set of loops
abbrev pub among : List ℕ → Loops
among vs u = list_any (λ v. nat_eq u v) vs

-- these loops and the substituted one
abbrev pub with_lane : Option Lanes → Loops → Loops
with_lane None around = around
with_lane (Some lanes) around = also around lanes.var

-- the variable follows from the loops that are entered at a visit
abbrev pub FollowsAt : List Derived → LeafVisit → ℕ → Type 0
FollowsAt ds visit u = Follows ds (among visit.around) (renamed visit.pairs) (renamed visit.pairs u)

-- it follows from them and the substituted loop
abbrev pub FollowsInLane : List Derived → LeafVisit → ℕ → Type 0
FollowsInLane ds visit u = Follows ds (with_lane visit.lanes (among visit.around)) (renamed visit.pairs) (renamed visit.pairs u)

-- the variable has a value at the last visit, whatever value a substituted loop has
abbrev pub HasValue : Run → ℕ → Type 0
HasValue r u = OnVisit r.last (λ visit. FollowsAt r.sched.derived visit u)

-- the variable has a value at the last visit, where the substituted loop has one
abbrev pub HasLaneValue : Run → ℕ → Type 0
HasLaneValue r u = OnVisit r.last (λ visit. FollowsInLane r.sched.derived visit u)

-- a number that the variable has at the last visit
abbrev pub IsValue : Run → ℕ → ℕ → Type 0
IsValue r u x = OnVisit r.last (λ visit. x ≡ value_in (world_of r.stored r.sched) r.sched.derived visit.pairs visit.slots u)

-- a number that the variable has at the last visit, where the substituted loop has the value y
abbrev pub IsLaneValue : Run → ℕ → ℕ → ℕ → Type 0
IsLaneValue r y u x =
    OnVisit r.last (λ visit. MatchOption visit.lanes ⊥ (λ lanes. x ≡ value_in (world_of r.stored r.sched) r.sched.derived visit.pairs (slice_set visit.slots lanes.var y) u))

-- whether a number is one of a list
abbrev pub is_among : ℕ → List ℕ → Bool
is_among x xs = list_any (λ y. nat_eq x y) xs

-- the tree is the leaf of the last visit
abbrev pub IsLeafOf : Run → Tree → Type 0
IsLeafOf r tree = OnVisit r.last (λ visit. tree ≡ leaf_tree visit.leaf)

-- the variables of the left side have values, and those of the terms have them with the substituted loop
abbrev pub AreValued : Run → Type 0
AreValued r = OnVisit r.last (λ visit. AllByRecursion (HasValue r) visit.leaf.lhs.vars × AllByRecursion (λ a. AllByRecursion (HasLaneValue r) a.vars) (read_accesses visit.leaf.terms))

-- the loops that are entered have values
abbrev pub HaveLoopValues : Run → Type 0
HaveLoopValues r = OnVisit r.last (λ visit. (v : ℕ) → among visit.around v ≡ true → HasValue r v)

-- the variables of the leaf's guards have values with the substituted loop, and so has that loop
abbrev pub HaveTestValues : Run → Type 0
HaveTestValues r =
    OnVisit r.last (λ visit. AllByRecursion (HasLaneValue r) visit.leaf.guards × MatchOption visit.lanes (Unit {0}) (λ lanes. HasLaneValue r lanes.var))

-- the extent of the substituted loop, where there is one
abbrev pub IsExtent : Run → Option ℕ → Type 0
IsExtent r n = OnVisit r.last (λ visit. n ≡ option_map (λ lanes. lanes.extent) visit.lanes)

-- the valid values of a substituted loop are below its extent, ascending
abbrev pub AreAscending : Option Lanes → Type 0
AreAscending None = Unit {0}
AreAscending (Some lanes) = lanes.valid ≡ filter (λ x. is_among x lanes.valid) (range_with_len 0 lanes.extent)

-- The state of a run ---------------------------------------------------------------------------------------------------

-- the tests of a run, which fail as soon as a variable of a split is outside
abbrev pub run_tests : List StoredTensor → Schedule → Tests
run_tests stored s = inside_tests (world_of stored s) s.derived

-- the items that are left where a run stands
abbrev pub left_of : Tests → Tree → List ℕ → List ℕ → Progress → List Item
left_of t tree path slots Before = tree_visits t tree at_root slots path
left_of t tree path slots (Resetting leaf past work) = map IsReset (drop past (works_at tree leaf)) ++ item_at t tree at_root slots leaf ∷ after t tree at_root slots path leaf
left_of t tree path slots (On leaf) = after t tree at_root slots path leaf
left_of t tree path slots Done = []

-- the last item
abbrev pub last_of : Tests → Tree → List ℕ → Progress → Option Item
last_of t tree slots Before = None
last_of t tree slots (Resetting leaf past work) = Some (IsReset work)
last_of t tree slots (On leaf) = Some (IsVisit (visit_at t tree at_root slots leaf))
last_of t tree slots Done = None

-- the run that stands here
abbrev pub run_of : List StoredTensor → Schedule → List ℕ → List ℕ → Progress → Run
run_of stored s path slots p = record {
  sched = s;
  stored = stored;
  last = last_of (run_tests stored s) s.nest slots p;
  left = left_of (run_tests stored s) s.nest path slots p;
}

-- the number of the leaf where a run stands
abbrev pub standing : Progress → ℕ
standing Before = 0
standing (Resetting leaf past work) = leaf
standing (On leaf) = leaf
standing Done = 0

-- the slots are those of the place where a run stands
abbrev pub Stands : Tree → List ℕ → Progress → Type 0
Stands tree slots Before = AreZero tree slots
Stands tree slots (Resetting leaf past work) = IsAt tree slots leaf × (leaf < leaf_count tree) × (past ≤ length (works_at tree leaf))
Stands tree slots (On leaf) = IsAt tree slots leaf × (leaf < leaf_count tree)
Stands tree slots Done = Unit {0}

-- the leaf of a visit is visited there, with each valid value of a substituted loop, of which there is one
abbrev pub GuardsHold : Tests → LeafNode → List Pair → List ℕ → Option Lanes → Type 0
GuardsHold t leaf pairs slots None = t.holds leaf pairs slots ≡ true
GuardsHold t leaf pairs slots (Some lanes) = (0 < length lanes.valid) × AllByRecursion (λ x. t.holds leaf pairs (slice_set slots lanes.var x) ≡ true) lanes.valid

-- so they do at an item, if it is a visit
abbrev pub ItemHolds : Tests → Item → Type 0
ItemHolds t (IsReset work) = Unit {0}
ItemHolds t (IsVisit visit) = GuardsHold t visit.leaf visit.pairs visit.slots visit.lanes

-- and at the last item
abbrev pub LastHolds : Tests → Option Item → Type 0
LastHolds t None = Unit {0}
LastHolds t (Some item) = ItemHolds t item

-- What holds of the parts of a run, wherever it stands.
pub record CanGoOn (stored : List StoredTensor) (s : Schedule) (path slots : List ℕ) (p : Progress) : Type 0 where
  pub lawful : IsLawful s
  pub fits : FitsStored stored s
  pub goes : IsPath s path
  pub room : length slots ≡ length s.names
  pub stands : Stands s.nest slots p
  pub left : AllByRecursion (ItemHolds (run_tests stored s)) (left_of (run_tests stored s) s.nest path slots p)

-- What holds of them where it gave the last item.
pub record IsSound (stored : List StoredTensor) (s : Schedule) (path slots : List ℕ) (p : Progress) : Type 0 where
  pub on : CanGoOn stored s path slots p
  pub last : LastHolds (run_tests stored s) (last_of (run_tests stored s) s.nest slots p)

-- where a run came from one place: the item that it gave, and what is left
abbrev pub Moves : Tests → Tree → List ℕ → List Item → List ℕ → Progress → Type 0
Moves t tree path left slots Before = ⊥
Moves t tree path left slots (Resetting leaf past work) = left ≡ IsReset work ∷ left_of t tree path slots (Resetting leaf past work)
Moves t tree path left slots (On leaf) = left ≡ IsVisit (visit_at t tree at_root slots leaf) ∷ after t tree at_root slots path leaf
Moves t tree path left slots Done = left ≡ []

-- the place after a leaf was reached, where so many workspaces around it were reset
abbrev pub ArrivesAt : Option ℕ → ℕ → ℕ → Progress → Type 0
ArrivesAt found leaf past Before = ⊥
ArrivesAt found leaf past (Resetting l m work) = (l ≡ leaf) × (m ≡ past + 1) × (found ≡ Some work)
ArrivesAt found leaf past (On l) = (l ≡ leaf) × (found ≡ None)
ArrivesAt found leaf past Done = ⊥

-- the answer that a run gave last
abbrev pub answer_at : Progress → Option Visit
answer_at Before = None
answer_at (Resetting leaf past work) = Some (v.Reset work)
answer_at (On leaf) = Some v.Leaf
answer_at Done = None
