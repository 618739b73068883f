-- What the calls of a run answer, from where it stands.
use Rattle.std.proofs.Common.{◌≡◌, ℕ, ◌<◌, Bool, true, List, [], length, Option, Some, None, option_map, unwrap_or, refl, sym, ap, ◌∙◌, subst}
use Rattle.std.specs.Prelude.{MatchOption, slice_index, slice_set}
use Rattle.std.proofs.lemmas.List.{length-replicate}
use Rattle.dt_model.specs.Positions.{StoredTensor}
use Rattle.dt_nest.specs.declared.branches.Substituted.{Substituted}
use Rattle.dt_nest.specs.declared.inner_loops.InnerLoops.{InnerLoops}
use Rattle.dt_nest.specs.declared.progress.Progress.{Progress}
use Rattle.dt_nest.specs.declared.progress.Progress.TheVariants.{Before, Resetting, On, Done}
use Rattle.dt_nest.specs.Schedule.{Schedule}
use Rattle.dt_nest.specs.World.{world_of}
use Rattle.dt_nest.specs.declared.derivations.Derived.{Derived}
use Rattle.dt_nest.specs.declared.loops.Pair.{Pair}
use Rattle.dt_nest.specs.Lawful.{Loops, Follows, IsLawful}
use Rattle.dt_nest.specs.Meaning.{renamed}
use Rattle.dt_nest.specs.FitsStored.{FitsStored}
use Rattle.dt_nest.specs.Values.{inside_in}
use Rattle.dt_nest.specs.Visits.{Lanes, at_root, IsPath, no_slots, value_in}
use Rattle.dt_nest.specs.Search.{IsAt, pairs_at}
use Rattle.dt_nest.specs.Branch.{leaf_at, loops_at, node_at, substituted_at, valid_at, lanes_at}
use Rattle.dt_nest.specs.Run.{run_over, IsAtLeaf, OnLanes, HasValue, HasLaneValue, IsValue, IsLaneValue, is_among, IsLeafOf, AreValued, HaveLoopValues, HaveTestValues, IsExtent, AreAscending, OnVisit, among, with_lane, GuardsHold, run_tests, run_of, standing, IsSound}
use Rattle.dt_nest.specs.Visited.{IsKept}
use Rattle.dt_nest.specs.ValueTables.{tabled}
use Rattle.dt_nest.specs.InnerLoops.{AreInnerLoops}
use Rattle.dt_nest.proofs.LawfulFit.{lawful_coordinates}
use Rattle.dt_nest.proofs.OwnSlots.{none_entered}
use Rattle.dt_nest.proofs.Holding.{visits_hold}
use Rattle.dt_nest.proofs.LeafFacts.{leaf-node, LaneFollows, LaneIs, lane_is, LeafFacts, leaf_facts, value_there, lane_value_there, below_there, lane_below_there}
use Rattle.dt_nest.proofs.Pruned.{stored_each, visits_inside}

module _ (stored : List StoredTensor) (s : Schedule) (path slots : List ℕ) where
  -- a run before its first item is sound
  pub sound_before : IsLawful s → FitsStored stored s → IsPath s path → slots ≡ no_slots s → IsSound stored s path slots Before
  sound_before l f p e = subst (λ (x : List ℕ). IsSound stored s path x Before) (sym e) (record {
    on = record {
      lawful = l;
      fits = f;
      goes = p;
      room = length-replicate (length s.names) 0;
      stands = none_entered s.nest (length s.names);
      left = visits_hold (run_tests stored s) s.nest at_root (no_slots s) path;
    };
    last = tt;
  })

  -- and nothing else is kept than its inner loops
  pub kept_before : (w : InnerLoops) (values : List (Option ℕ)) → AreInnerLoops s path w → length values ≡ length s.names → IsKept stored s path slots Before w values
  kept_before w values a e = record { inner_loops = a; room = e; table = λ leaf p. absurd (cc) }

  -- and has all visits left
  pub starts : IsLawful s → FitsStored stored s → slots ≡ no_slots s → run_of stored s path slots Before ≡ run_over stored s path
  starts l f e = subst (λ (x : List ℕ). run_of stored s path x Before ≡ run_over stored s path) (sym e)
      (let v = visits_inside s stored path l f in ap (λ items. record { sched = s; stored = stored; last = None; left = items }) v)

module _ (stored : List StoredTensor) (s : Schedule) (path slots : List ℕ) (p : Progress) (i : IsSound stored s path slots p) where
  facts : (leaf : ℕ) → IsAt s.nest slots leaf → LeafFacts s s.derived slots (among (loops_at s.nest [] leaf)) (pairs_at s.nest leaf) (node_at s.nest leaf) (lanes_at (run_tests stored s) s.nest [] slots leaf)
  facts leaf at = leaf_facts s s.derived i.on.lawful.ordered (run_tests stored s) s.nest [] [] slots leaf at (λ u a. absurd (cc)) i.on.lawful.named i.on.lawful.follows i.on.lawful.guards i.on.lawful.kernels.1 (λ u. refl) i.on.lawful.loops (record { plain = λ u a. absurd (cc); follow = λ u a. absurd (cc) })

  pub leaf_answer : IsAtLeaf (run_of stored s path slots p) → IsLeafOf (run_of stored s path slots p) (leaf_at s.nest (standing p))
  leaf_answer a = go p a
    where
      go : (p : Progress) → IsAtLeaf (run_of stored s path slots p) → IsLeafOf (run_of stored s path slots p) (leaf_at s.nest (standing p))
      go Before a = absurd a
      go (Resetting leaf past work) a = absurd a
      go (On leaf) a = leaf-node s.nest leaf
      go Done a = absurd a

  pub leaf_valued : IsAtLeaf (run_of stored s path slots p) → AreValued (run_of stored s path slots p)
  leaf_valued a = go p i a
    where
      go : (p : Progress) → IsSound stored s path slots p → IsAtLeaf (run_of stored s path slots p) → AreValued (run_of stored s path slots p)
      go Before i a = absurd a
      go (Resetting leaf past work) i a = absurd a
      go (On leaf) i a = ((facts leaf i.on.stands.0).left, (facts leaf i.on.stands.0).reads)
      go Done i a = absurd a

  pub loops_valued : IsAtLeaf (run_of stored s path slots p) → HaveLoopValues (run_of stored s path slots p)
  loops_valued a = go p i a
    where
      go : (p : Progress) → IsSound stored s path slots p → IsAtLeaf (run_of stored s path slots p) → HaveLoopValues (run_of stored s path slots p)
      go Before i a = absurd a
      go (Resetting leaf past work) i a = absurd a
      go (On leaf) i a = (facts leaf i.on.stands.0).loops
      go Done i a = absurd a

  swept_valued : (ds : List Derived) (around : Loops) (pairs : List Pair) (lanes : Option Lanes) → LaneFollows ds around pairs lanes → MatchOption lanes (Unit {0}) (λ l. Follows ds (with_lane lanes around) (renamed pairs) (renamed pairs l.var))
  swept_valued ds around pairs None h = tt
  swept_valued ds around pairs (Some lanes) h = h

  pub tests_valued : IsAtLeaf (run_of stored s path slots p) → HaveTestValues (run_of stored s path slots p)
  tests_valued a = go p i a
    where
      go : (p : Progress) → IsSound stored s path slots p → IsAtLeaf (run_of stored s path slots p) → HaveTestValues (run_of stored s path slots p)
      go Before i a = absurd a
      go (Resetting leaf past work) i a = absurd a
      go (On leaf) i a =
          let f = facts leaf i.on.stands.0 in
          (f.tested, swept_valued s.derived (among (loops_at s.nest [] leaf)) (pairs_at s.nest leaf) (lanes_at (run_tests stored s) s.nest [] slots leaf) f.swept)
      go Done i a = absurd a

  lane_extent : (lanes : Option Lanes) (loop : Option Substituted) (valid : ℕ → Bool) → LaneIs lanes loop valid → option_map (λ (x : Substituted). x.extent) loop ≡ option_map (λ (x : Lanes). x.extent) lanes
  lane_extent None None valid h = refl
  lane_extent None (Some loop) valid h = absurd h
  lane_extent (Some lanes) None valid h = absurd h
  lane_extent (Some lanes) (Some loop) valid h = ap Some h.1

  pub lanes_answer : IsAtLeaf (run_of stored s path slots p) → IsExtent (run_of stored s path slots p) (option_map (λ (x : Substituted). x.extent) (substituted_at s.nest (standing p)))
  lanes_answer a = go p a
    where
      go : (p : Progress) → IsAtLeaf (run_of stored s path slots p) → IsExtent (run_of stored s path slots p) (option_map (λ (x : Substituted). x.extent) (substituted_at s.nest (standing p)))
      go Before a = absurd a
      go (Resetting leaf past work) a = absurd a
      go (On leaf) a = lane_extent (lanes_at (run_tests stored s) s.nest [] slots leaf) (substituted_at s.nest leaf) (valid_at (run_tests stored s) s.nest [] slots leaf) (lane_is (run_tests stored s) s.nest [] slots leaf)
      go Done a = absurd a

  lane_ascending : (lanes : Option Lanes) (loop : Option Substituted) (valid : ℕ → Bool) → LaneIs lanes loop valid → AreAscending lanes
  lane_ascending None None valid h = tt
  lane_ascending None (Some loop) valid h = absurd h
  lane_ascending (Some lanes) None valid h = absurd h
  lane_ascending (Some lanes) (Some loop) valid h = h.2

  pub lanes_ascending : IsAtLeaf (run_of stored s path slots p) → OnVisit (run_of stored s path slots p).last (λ visit. AreAscending visit.lanes)
  lanes_ascending a = go p a
    where
      go : (p : Progress) → IsAtLeaf (run_of stored s path slots p) → OnVisit (run_of stored s path slots p).last (λ visit. AreAscending visit.lanes)
      go Before a = absurd a
      go (Resetting leaf past work) a = absurd a
      go (On leaf) a = lane_ascending (lanes_at (run_tests stored s) s.nest [] slots leaf) (substituted_at s.nest leaf) (valid_at (run_tests stored s) s.nest [] slots leaf) (lane_is (run_tests stored s) s.nest [] slots leaf)
      go Done a = absurd a

  pub value_answer : (u : ℕ) (o : Option ℕ) → HasValue (run_of stored s path slots p) u → o ≡ inside_in (world_of stored s) s.derived (pairs_at s.nest (standing p)) slots u
      → IsValue (run_of stored s path slots p) u (unwrap_or o 0)
  value_answer u o a e = go p i a e
    where
      go : (p : Progress) → IsSound stored s path slots p → HasValue (run_of stored s path slots p) u → o ≡ inside_in (world_of stored s) s.derived (pairs_at s.nest (standing p)) slots u → IsValue (run_of stored s path slots p) u (unwrap_or o 0)
      go Before i a e = absurd a
      go (Resetting leaf past work) i a e = absurd a
      go (On leaf) i a e =
          value_there stored s (stored_each stored s i.on.fits) s.derived i.on.lawful.ordered (pairs_at s.nest leaf) slots (among (loops_at s.nest [] leaf)) (node_at s.nest leaf) (lanes_at (run_tests stored s) s.nest [] slots leaf) (facts leaf i.on.stands.0) i.last u o a e
      go Done i a e = absurd a

  -- the values that are kept at a visit
  pub value_kept : (w : InnerLoops) (values : List (Option ℕ)) (u : ℕ) → HasValue (run_of stored s path slots p) u → IsKept stored s path slots p w values → tabled values u ≡ inside_in (world_of stored s) s.derived (pairs_at s.nest (standing p)) slots u
  value_kept w values u h k = go p h k
    where
      go : (p : Progress) → HasValue (run_of stored s path slots p) u → IsKept stored s path slots p w values → tabled values u ≡ inside_in (world_of stored s) s.derived (pairs_at s.nest (standing p)) slots u
      go Before h k = absurd h
      go (Resetting leaf past work) h k = absurd h
      go (On leaf) h k = (k.table leaf refl).has u
      go Done h k = absurd h

  module _ (leaf x u : ℕ) where
    lane_value : (lanes : Option Lanes) (loop : Option Substituted) (b : Substituted) (valid : ℕ → Bool) (o : Option ℕ) → loop ≡ Some b → LaneIs lanes loop valid
        → LeafFacts s s.derived slots (among (loops_at s.nest [] leaf)) (pairs_at s.nest leaf) (node_at s.nest leaf) lanes → GuardsHold (run_tests stored s) (node_at s.nest leaf) (pairs_at s.nest leaf) slots lanes
        → MatchOption lanes ⊥ (λ lanes. is_among x lanes.valid ≡ true) → Follows s.derived (with_lane lanes (among (loops_at s.nest [] leaf))) (renamed (pairs_at s.nest leaf)) (renamed (pairs_at s.nest leaf) u)
        → o ≡ inside_in (world_of stored s) s.derived (pairs_at s.nest leaf) (slice_set slots b.var x) u
        → MatchOption lanes ⊥ (λ lanes. unwrap_or o 0 ≡ value_in (world_of stored s) s.derived (pairs_at s.nest leaf) (slice_set slots lanes.var x) u)
    lane_value None loop b valid o n l f h m k e = m
    lane_value (Some lanes) None b valid o n l f h m k e = absurd l
    lane_value (Some lanes) (Some loop) b valid o n l f h m k e =
        let v : b.var ≡ lanes.var = ap (λ (o : Option Substituted). unwrap_or (option_map (λ (y : Substituted). y.var) o) 0) (sym n) ∙ l.0 in
        lane_value_there stored s (stored_each stored s i.on.fits) s.derived i.on.lawful.ordered (pairs_at s.nest leaf) slots (among (loops_at s.nest [] leaf)) (node_at s.nest leaf) lanes f h x m u o k
        (e ∙ ap (λ (y : ℕ). inside_in (world_of stored s) s.derived (pairs_at s.nest leaf) (slice_set slots y x) u) v)

  pub lane_value_answer : (x u : ℕ) (o : Option ℕ) (b : Substituted) → OnLanes (run_of stored s path slots p) (λ lanes. is_among x lanes.valid ≡ true) → HasLaneValue (run_of stored s path slots p) u → substituted_at s.nest (standing p) ≡ Some b
      → o ≡ inside_in (world_of stored s) s.derived (pairs_at s.nest (standing p)) (slice_set slots b.var x) u → IsLaneValue (run_of stored s path slots p) x u (unwrap_or o 0)
  lane_value_answer x u o b m a n e = go p i m a n e
    where
      go : (p : Progress) → IsSound stored s path slots p → OnLanes (run_of stored s path slots p) (λ lanes. is_among x lanes.valid ≡ true) → HasLaneValue (run_of stored s path slots p) u → substituted_at s.nest (standing p) ≡ Some b
          → o ≡ inside_in (world_of stored s) s.derived (pairs_at s.nest (standing p)) (slice_set slots b.var x) u → IsLaneValue (run_of stored s path slots p) x u (unwrap_or o 0)
      go Before i m a n e = absurd a
      go (Resetting leaf past work) i m a n e = absurd a
      go (On leaf) i m a n e =
          lane_value leaf x u (lanes_at (run_tests stored s) s.nest [] slots leaf) (substituted_at s.nest leaf) b (valid_at (run_tests stored s) s.nest [] slots leaf) o n (lane_is (run_tests stored s) s.nest [] slots leaf) (facts leaf i.on.stands.0) i.last m a e
      go Done i m a n e = absurd a

  no_lane : (lanes : Option Lanes) (loop : Option Substituted) (valid : ℕ → Bool) (P : Lanes → Type 0) → loop ≡ None → LaneIs lanes loop valid → MatchOption lanes ⊥ P → ⊥
  no_lane None loop valid P n l m = m
  no_lane (Some lanes) None valid P n l m = l
  no_lane (Some lanes) (Some loop) valid P n l m = absurd (cc)

  pub lane_value_none : (x : ℕ) → OnLanes (run_of stored s path slots p) (λ lanes. is_among x lanes.valid ≡ true) → substituted_at s.nest (standing p) ≡ None → ⊥
  lane_value_none x m n = go p m n
    where
      go : (p : Progress) → OnLanes (run_of stored s path slots p) (λ lanes. is_among x lanes.valid ≡ true) → substituted_at s.nest (standing p) ≡ None → ⊥
      go Before m n = m
      go (Resetting leaf past work) m n = m
      go (On leaf) m n = no_lane (lanes_at (run_tests stored s) s.nest [] slots leaf) (substituted_at s.nest leaf) (valid_at (run_tests stored s) s.nest [] slots leaf) (λ lanes. is_among x lanes.valid ≡ true) n (lane_is (run_tests stored s) s.nest [] slots leaf) m
      go Done m n = m

  valid_lane : (x : ℕ) (lanes : Option Lanes) (loop : Option Substituted) (valid : ℕ → Bool) (b : Bool) → b ≡ valid x → LaneIs lanes loop valid → MatchOption lanes ⊥ (λ lanes. x < lanes.extent) → MatchOption lanes ⊥ (λ lanes. b ≡ is_among x lanes.valid)
  valid_lane x None loop valid b e l m = m
  valid_lane x (Some lanes) None valid b e l m = absurd l
  valid_lane x (Some lanes) (Some loop) valid b e l m = e ∙ l.3 x m

  pub valid_answer : (x : ℕ) (b : Bool) → OnLanes (run_of stored s path slots p) (λ lanes. x < lanes.extent) → b ≡ valid_at (run_tests stored s) s.nest [] slots (standing p) x → OnLanes (run_of stored s path slots p) (λ lanes. b ≡ is_among x lanes.valid)
  valid_answer x b m e = go p m e
    where
      go : (p : Progress) → OnLanes (run_of stored s path slots p) (λ lanes. x < lanes.extent) → b ≡ valid_at (run_tests stored s) s.nest [] slots (standing p) x → OnLanes (run_of stored s path slots p) (λ lanes. b ≡ is_among x lanes.valid)
      go Before m e = absurd m
      go (Resetting leaf past work) m e = absurd m
      go (On leaf) m e = valid_lane x (lanes_at (run_tests stored s) s.nest [] slots leaf) (substituted_at s.nest leaf) (valid_at (run_tests stored s) s.nest [] slots leaf) b e (lane_is (run_tests stored s) s.nest [] slots leaf) m
      go Done m e = absurd m

  -- a value at a visit is below its variable's extent
  pub value_below : (u n : ℕ) → HasValue (run_of stored s path slots p) u → IsValue (run_of stored s path slots p) u n → n < slice_index s.extents u
  value_below u n a v = go p i a v
    where
      go : (p : Progress) → IsSound stored s path slots p → HasValue (run_of stored s path slots p) u → IsValue (run_of stored s path slots p) u n → n < slice_index s.extents u
      go Before i a v = absurd a
      go (Resetting leaf past work) i a v = absurd a
      go (On leaf) i a v =
          subst (λ (m : ℕ). m < slice_index s.extents u) (sym v)
          (below_there stored s (stored_each stored s i.on.fits) s.derived i.on.lawful.ordered (pairs_at s.nest leaf) slots i.on.lawful.derived (lawful_coordinates stored s i.on.lawful i.on.fits) (among (loops_at s.nest [] leaf)) (node_at s.nest leaf) (lanes_at (run_tests stored s) s.nest [] slots leaf) (facts leaf i.on.stands.0) i.last u a)
      go Done i a v = absurd a

  lane_below : (leaf x u n : ℕ) (lanes : Option Lanes) → LeafFacts s s.derived slots (among (loops_at s.nest [] leaf)) (pairs_at s.nest leaf) (node_at s.nest leaf) lanes → GuardsHold (run_tests stored s) (node_at s.nest leaf) (pairs_at s.nest leaf) slots lanes
      → MatchOption lanes ⊥ (λ lanes. is_among x lanes.valid ≡ true) → Follows s.derived (with_lane lanes (among (loops_at s.nest [] leaf))) (renamed (pairs_at s.nest leaf)) (renamed (pairs_at s.nest leaf) u)
      → MatchOption lanes ⊥ (λ lanes. n ≡ value_in (world_of stored s) s.derived (pairs_at s.nest leaf) (slice_set slots lanes.var x) u) → n < slice_index s.extents u
  lane_below leaf x u n None f h m k e = absurd m
  lane_below leaf x u n (Some lanes) f h m k e =
      subst (λ (m : ℕ). m < slice_index s.extents u) (sym e)
      (lane_below_there stored s (stored_each stored s i.on.fits) s.derived i.on.lawful.ordered (pairs_at s.nest leaf) slots i.on.lawful.derived (lawful_coordinates stored s i.on.lawful i.on.fits) (among (loops_at s.nest [] leaf)) (node_at s.nest leaf) lanes f h x m u k)

  -- and so is one with a valid value of the substituted loop
  pub lane_value_below : (x u n : ℕ) → OnLanes (run_of stored s path slots p) (λ lanes. is_among x lanes.valid ≡ true) → HasLaneValue (run_of stored s path slots p) u → IsLaneValue (run_of stored s path slots p) x u n → n < slice_index s.extents u
  lane_value_below x u n m a v = go p i m a v
    where
      go : (p : Progress) → IsSound stored s path slots p → OnLanes (run_of stored s path slots p) (λ lanes. is_among x lanes.valid ≡ true) → HasLaneValue (run_of stored s path slots p) u → IsLaneValue (run_of stored s path slots p) x u n → n < slice_index s.extents u
      go Before i m a v = absurd m
      go (Resetting leaf past work) i m a v = absurd m
      go (On leaf) i m a v = lane_below leaf x u n (lanes_at (run_tests stored s) s.nest [] slots leaf) (facts leaf i.on.stands.0) i.last m a v
      go Done i m a v = absurd m
