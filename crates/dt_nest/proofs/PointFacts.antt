-- What the answers of a run say of the visit where it stands.
use Rattle.std.proofs.Common.{◌≡◌, ℕ, true, List, Option, Some, None, refl}
use Rattle.std.specs.Prelude.{MatchOption, slice_set}
use Rattle.dt_nest.specs.declared.derivations.Derived.{Derived}
use Rattle.dt_nest.specs.declared.loops.Pair.{Pair}
use Rattle.dt_nest.specs.Meaning.{World}
use Rattle.dt_nest.specs.World.{world_of}
use Rattle.dt_nest.specs.Visits.{Lanes, LeafVisit, Item, IsReset, IsVisit, value_in}
use Rattle.dt_nest.specs.Run.{Run, OnVisit, OnLanes, FollowsAt, HasValue, IsValue, IsLaneValue, is_among}
use Rattle.dt_nest.specs.Point.{visit_in, slots_with, env_at}

-- what holds on a visit holds of the visit
pub on_visit : (P : LeafVisit → Type 0) (last : Option Item) → OnVisit last P → P (visit_in last)
on_visit P None h = absurd h
on_visit P (Some (IsReset work)) h = absurd h
on_visit P (Some (IsVisit visit)) h = h

-- the value of a variable at the visit
pub value_is : (r : Run) (u x : ℕ) → IsValue r u x → x ≡ env_at r None u
unfolding env_at
value_is r u x h = on_visit (λ visit. x ≡ value_in (world_of r.stored r.sched) r.sched.derived visit.pairs visit.slots u) r.last h

lane_there : (w : World) (ds : List Derived) (pairs : List Pair) (slots : List ℕ) (lanes : Option Lanes) (y u x : ℕ) → MatchOption lanes ⊥ (λ l. x ≡ value_in w ds pairs (slice_set slots l.var y) u)
    → x ≡ value_in w ds pairs (slots_with slots lanes (Some y)) u
lane_there w ds pairs slots None y u x h = absurd h
lane_there w ds pairs slots (Some l) y u x h = h

-- and where its substituted loop has a value
pub lane_value_is : (r : Run) (y u x : ℕ) → IsLaneValue r y u x → x ≡ env_at r (Some y) u
unfolding env_at
lane_value_is r y u x h =
    lane_there (world_of r.stored r.sched) r.sched.derived (visit_in r.last).pairs (visit_in r.last).slots (visit_in r.last).lanes y u x
    (on_visit (λ visit. MatchOption visit.lanes ⊥ (λ l. x ≡ value_in (world_of r.stored r.sched) r.sched.derived visit.pairs (slice_set visit.slots l.var y) u)) r.last h)

-- at a visit the value there is the variable's
pub is_value : (r : Run) (u : ℕ) → HasValue r u → IsValue r u (env_at r None u)
unfolding env_at
is_value r u h = go r.last h
  where
    go : (last : Option Item) → OnVisit last (λ visit. FollowsAt r.sched.derived visit u)
        → OnVisit last (λ visit. value_in (world_of r.stored r.sched) r.sched.derived (visit_in last).pairs (visit_in last).slots u ≡ value_in (world_of r.stored r.sched) r.sched.derived visit.pairs visit.slots u)
    go None h = h
    go (Some (IsReset work)) h = h
    go (Some (IsVisit visit)) h = refl

-- and at a valid value of its substituted loop
pub is_lane_value : (r : Run) (y u : ℕ) → OnLanes r (λ lanes. is_among y lanes.valid ≡ true) → IsLaneValue r y u (env_at r (Some y) u)
unfolding env_at
is_lane_value r y u h = go r.last h
  where
    there : (pairs : List Pair) (slots : List ℕ) (lanes : Option Lanes) → MatchOption lanes ⊥ (λ l. is_among y l.valid ≡ true)
        → MatchOption lanes ⊥ (λ l. value_in (world_of r.stored r.sched) r.sched.derived pairs (slots_with slots lanes (Some y)) u ≡ value_in (world_of r.stored r.sched) r.sched.derived pairs (slice_set slots l.var y) u)
    there pairs slots None h = h
    there pairs slots (Some l) h = refl

    go : (last : Option Item) → OnVisit last (λ visit. MatchOption visit.lanes ⊥ (λ l. is_among y l.valid ≡ true))
        → OnVisit last (λ visit. MatchOption visit.lanes ⊥ (λ l. value_in (world_of r.stored r.sched) r.sched.derived (visit_in last).pairs (slots_with (visit_in last).slots (visit_in last).lanes (Some y)) u
        ≡ value_in (world_of r.stored r.sched) r.sched.derived visit.pairs (slice_set visit.slots l.var y) u))
    go None h = h
    go (Some (IsReset work)) h = h
    go (Some (IsVisit visit)) h = there visit.pairs visit.slots visit.lanes h
