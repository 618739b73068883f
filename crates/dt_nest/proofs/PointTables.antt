-- What lists of values say of the points of a visit.
use Rattle.std.proofs.Common.{◌≡◌, ℕ, ◌<◌, Bool, true, false, List, [], Option, Some, None, refl, sym, ◌∙◌}
use Rattle.std.specs.Bool.{OnTrue}
use Rattle.std.specs.Prelude.{MatchOption, slice_index}
use Rattle.dt_model.specs.Positions.{StoredTensor}
use Rattle.dt_nest.specs.declared.branches.Substituted.{Substituted}
use Rattle.dt_nest.specs.declared.progress.Progress.{Progress}
use Rattle.dt_nest.specs.declared.inner_loops.InnerLoops.{InnerLoops}
use Rattle.dt_nest.specs.Schedule.{Schedule}
use Rattle.dt_nest.specs.World.{world_of}
use Rattle.dt_nest.specs.Search.{pairs_at}
use Rattle.dt_nest.specs.Branch.{substituted_at}
use Rattle.dt_nest.specs.ValueTables.{tabled}
use Rattle.dt_nest.specs.Visits.{Lanes, Item, IsReset, IsVisit}
use Rattle.dt_nest.specs.Run.{Run, IsSound, OnLanes, OnVisit, is_among, run_of, standing}
use Rattle.dt_nest.specs.Visited.{HasLaneTable, IsKept}
use Rattle.dt_nest.specs.Point.{ArePointValues, HasValueAt, IsPoint, env_at}
use Rattle.dt_nest.proofs.RunFacts.{value_answer, value_kept, value_below, lane_value_answer, lane_value_below, lane_value_none}
use Rattle.dt_nest.proofs.PointFacts.{value_is, lane_value_is, is_value, is_lane_value}

-- what follows from a test
pub on_true : (b : Bool) (P : Type 0) → (b ≡ true → P) → OnTrue b P
on_true true P f = f refl
on_true false P f = tt

-- a test that holds
pub valid_lane_true : (r : Run) (x : ℕ) (b : Bool) → OnLanes r (λ lanes. b ≡ is_among x lanes.valid) → b ≡ true → OnLanes r (λ lanes. is_among x lanes.valid ≡ true)
valid_lane_true r x b h y = last r.last h
  where
    in_lanes : (lanes : Option Lanes) → MatchOption lanes ⊥ (λ l. b ≡ is_among x l.valid) → MatchOption lanes ⊥ (λ l. is_among x l.valid ≡ true)
    in_lanes None h = h
    in_lanes (Some l) h = sym h ∙ y

    last : (item : Option Item) → OnVisit item (λ visit. MatchOption visit.lanes ⊥ (λ l. b ≡ is_among x l.valid)) → OnVisit item (λ visit. MatchOption visit.lanes ⊥ (λ l. is_among x l.valid ≡ true))
    last None h = h
    last (Some (IsReset work)) h = h
    last (Some (IsVisit visit)) h = in_lanes visit.lanes h

module _ (stored : List StoredTensor) (s : Schedule) (path slots : List ℕ) (p : Progress) (i : IsSound stored s path slots p) where
  -- each value at a point is below its variable's extent
  pub point_below : (lane : Option ℕ) (u : ℕ) → IsPoint (run_of stored s path slots p) lane → HasValueAt (run_of stored s path slots p) lane u → env_at (run_of stored s path slots p) lane u < slice_index s.extents u
  point_below None u m h = value_below stored s path slots p i u (env_at (run_of stored s path slots p) None u) h (is_value (run_of stored s path slots p) u h)
  point_below (Some x) u m h = lane_value_below stored s path slots p i x u (env_at (run_of stored s path slots p) (Some x) u) m h (is_lane_value (run_of stored s path slots p) x u m)

  -- the values that are kept are those at the visit
  pub kept_values : (w : InnerLoops) (values : List (Option ℕ)) → IsKept stored s path slots p w values → ArePointValues (run_of stored s path slots p) None values
  kept_values w values k = record {
    point = tt;
    has = λ u a.
        value_is (run_of stored s path slots p) u _ (value_answer stored s path slots p i u (tabled values u) a (value_kept stored s path slots p i w values u a k));
    below = λ u a. point_below None u tt a;
  }

  -- those that were made for a valid value of the substituted loop are those at it
  pub lane_values : (x : ℕ) (values : List (Option ℕ)) (o : Option Substituted) → substituted_at s.nest (standing p) ≡ o → OnLanes (run_of stored s path slots p) (λ lanes. is_among x lanes.valid ≡ true)
      → HasLaneTable (world_of stored s) s.derived [] (pairs_at s.nest (standing p)) slots o x values → ArePointValues (run_of stored s path slots p) (Some x) values
  lane_values x values None e m t = absurd (lane_value_none stored s path slots p i x m e)
  lane_values x values (Some loop) e m t = record {
    point = m;
    has = λ u a. lane_value_is (run_of stored s path slots p) x u _ (lane_value_answer stored s path slots p i x u (tabled values u) loop m a e (t.has u));
    below = λ u a. point_below (Some x) u m a;
  }
