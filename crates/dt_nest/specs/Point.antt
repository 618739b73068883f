-- A point of a visit: the visit itself, or one valid value of its substituted loop, which is then the lane.
use Rattle.std.specs.Prelude.{◌≡◌, ℕ, ◌<◌, true, List, [], Option, Some, None, slice_index, slice_set, unwrap_or}
use Rattle.dt_nest.specs.declared.derivations.Derived.{Derived}
use Rattle.dt_nest.specs.declared.loops.Kernel.TheVariants.{Plain}
use Rattle.dt_nest.specs.declared.points.Point.{Point}
use Rattle.dt_nest.specs.ValueTables.{tabled}
use Rattle.dt_nest.specs.Meaning.{World, Env}
use Rattle.dt_nest.specs.World.{world_of}
use Rattle.dt_nest.specs.Visits.{Lanes, LeafVisit, Item, IsReset, IsVisit, value_in}
use Rattle.dt_nest.specs.Run.{Run, OnLanes, HasValue, HasLaneValue, is_among}

-- the lane, where one is given, is a valid value of the last visit's substituted loop
abbrev pub IsPoint : Run → Option ℕ → Type 0
IsPoint r None = Unit {0}
IsPoint r (Some x) = OnLanes r (λ lanes. is_among x lanes.valid ≡ true)

-- the variable has a value at the point
abbrev pub HasValueAt : Run → Option ℕ → ℕ → Type 0
HasValueAt r None u = HasValue r u
HasValueAt r (Some x) u = HasLaneValue r u

-- a visit of nothing
abbrev pub no_visit : LeafVisit
no_visit = record { leaf = record { lhs = record { tensor = 0; vars = [] }; terms = []; guards = []; kernel = Plain }; around = []; pairs = []; slots = []; lanes = None }

-- the visit that an item is, and that of nothing where it is none
abbrev pub visit_in : Option Item → LeafVisit
visit_in None = no_visit
visit_in (Some (IsReset work)) = no_visit
visit_in (Some (IsVisit visit)) = visit

-- the visit where a run stands
abbrev pub visit_of : Run → LeafVisit
visit_of r = visit_in r.last

-- the slots of a visit, with the lane in the slot of the substituted loop
abbrev pub slots_with : List ℕ → Option Lanes → Option ℕ → List ℕ
slots_with slots lanes None = slots
slots_with slots None (Some x) = slots
slots_with slots (Some lanes) (Some x) = slice_set slots lanes.var x

-- the values of the variables at a point of a visit
abbrev pub env_in : World → List Derived → LeafVisit → Option ℕ → Env
env_in w ds visit lane = value_in w ds visit.pairs (slots_with visit.slots visit.lanes lane)

-- the values of the variables at a point of the visit where a run stands
unfoldable pub env_at : Run → Option ℕ → Env
env_at r lane = env_in (world_of r.stored r.sched) r.sched.derived (visit_of r) lane

-- the valid values of a substituted loop, if there is one
abbrev pub valid_in : Option Lanes → List ℕ
valid_in None = []
valid_in (Some lanes) = lanes.valid

-- those where a run stands
abbrev pub valid_of : Run → List ℕ
valid_of r = valid_in (visit_of r).lanes

-- The lane gives a point of the visit where a run stands, and the list has the value of each variable that has one there,
-- which is below its extent.
pub record ArePointValues (r : Run) (lane : Option ℕ) (values : List (Option ℕ)) : Type 0 where
  pub point : IsPoint r lane
  pub has : (u : ℕ) → HasValueAt r lane u → unwrap_or (tabled values u) 0 ≡ env_at r lane u
  pub below : (u : ℕ) → HasValueAt r lane u → env_at r lane u < slice_index r.sched.extents u

-- a point of the visit where a run stands, with the values of the variables there
abbrev pub IsPointOf : Run → Point → Type 0
IsPointOf r p = ArePointValues r p.lane p.values.now
