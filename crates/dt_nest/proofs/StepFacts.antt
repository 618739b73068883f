-- A run that its inner loops turn.
use Rattle.std.proofs.Common.{◌≡◌, ◌<◌, ℕ, Bool, true, false, List, [], ◌∷◌, ◌++◌, length, Option, Some, refl, sym, ap, ◌∙◌, subst}
use Rattle.std.specs.List.{AllByRecursion}
use Rattle.dt_model.specs.Positions.{StoredTensor}
use Rattle.dt_nest.specs.declared.progress.Progress.TheVariants.{On}
use Rattle.dt_nest.specs.declared.inner_loops.InnerLoops.{InnerLoops}
use Rattle.dt_nest.specs.Schedule.{Schedule}
use Rattle.dt_nest.specs.Visits.{at_root, Item}
use Rattle.dt_nest.specs.Search.{item_at, after, HaveSlots, pairs_at}
use Rattle.dt_nest.specs.InnerLoops.{AreInnerLoops, turned, last_inner_loops, last_node}
use Rattle.dt_nest.specs.Run.{run_tests, left_of, Stands, ItemHolds, CanGoOn, Moves}
use Rattle.dt_nest.specs.declared.inner_loops.InnerLoop.{InnerLoop}
use Rattle.dt_nest.specs.Lawful.{IsLawful, is_replaced}
use Rattle.dt_nest.specs.Visited.{CanTurn}
use Rattle.dt_nest.proofs.Holding.{item-visit}
use Rattle.dt_nest.proofs.OwnSlots.{have_slots}
use Rattle.dt_nest.proofs.Turns.{given, Turns, last_pairs, last_turns, inner_loop_loops, inner_loops_within}
use Rattle.dt_nest.specs.declared.loops.Pair.{Pair}
use Rattle.dt_nest.specs.World.{world_of}
use Rattle.dt_nest.specs.ValueTables.{IsLeafTable, IsTable}
use Rattle.dt_nest.proofs.ProgressFacts.{sound_room}

module _ (stored : List StoredTensor) (s : Schedule) (path old new : List ℕ) (w : InnerLoops) (are : AreInnerLoops s path w) where
  -- the values at the last leaf have their own names
  pub last_table : (values : List (Option ℕ)) → IsLeafTable (world_of stored s) s.derived [] (pairs_at s.nest w.leaf) old values → IsTable (world_of stored s) s.derived (λ u. u) old values
  last_table values t =
      (subst (λ (l : List Pair). IsLeafTable (world_of stored s) s.derived [] l old values) (ap (pairs_at s.nest) are.leaf ∙ last_pairs s.nest) t).has

  -- and so they are kept
  pub table_last : (values : List (Option ℕ)) → IsTable (world_of stored s) s.derived (λ u. u) new values → IsLeafTable (world_of stored s) s.derived [] (pairs_at s.nest w.leaf) new values
  table_last values t =
      subst (λ (l : List Pair). IsLeafTable (world_of stored s) s.derived [] l new values) (sym (ap (pairs_at s.nest) are.leaf ∙ last_pairs s.nest)) (record { has = t })

  step : CanGoOn stored s path old (On w.leaf) → turned w.items.items old ≡ Some new → Turns (run_tests stored s) (λ v pairs slots. refl) s.nest at_root path old new w.leaf
  step i e =
      subst (λ (k : ℕ). Turns (run_tests stored s) (λ v pairs slots. refl) s.nest at_root path old new k) (sym are.leaf)
      (last_turns (run_tests stored s) (λ v pairs slots. refl) s.nest at_root path old new (sound_room stored s path old (On w.leaf) i) (subst (λ (k : ℕ). Stands s.nest old (On k)) are.leaf i.stands).0
      (ap (λ ws. turned ws old) (sym are.items) ∙ e))

  -- where the guards hold it comes to the next visit
  pub step_visits : CanGoOn stored s path old (On w.leaf) → turned w.items.items old ≡ Some new → (run_tests stored s).holds (last_node s.nest) [] new ≡ true
      → Moves (run_tests stored s) s.nest path (left_of (run_tests stored s) s.nest path old (On w.leaf)) new (On w.leaf) × Stands s.nest new (On w.leaf)
  step_visits i e h =
      let k = step i e in (
        k.items
            ∙ ap (λ (b : Bool). given b (item_at (run_tests stored s) s.nest at_root new w.leaf) ++ after (run_tests stored s) s.nest at_root new path w.leaf) h
            ∙ ap (λ (i : Item). i ∷ after (run_tests stored s) s.nest at_root new path w.leaf) (item-visit (run_tests stored s) s.nest at_root new w.leaf),
        (k.stands, i.stands.1),
      )

  -- and where they do not the same items are left
  pub step_left : CanGoOn stored s path old (On w.leaf) → turned w.items.items old ≡ Some new → (run_tests stored s).holds (last_node s.nest) [] new ≡ false
      → left_of (run_tests stored s) s.nest path old (On w.leaf) ≡ left_of (run_tests stored s) s.nest path new (On w.leaf)
  step_left i e h =
      let k = step i e in
      k.items ∙ ap (λ (b : Bool). given b (item_at (run_tests stored s) s.nest at_root new w.leaf) ++ after (run_tests stored s) s.nest at_root new path w.leaf) h

  -- and can go on from there
  pub step_passes : CanGoOn stored s path old (On w.leaf) → length new ≡ length old → turned w.items.items old ≡ Some new → (run_tests stored s).holds (last_node s.nest) [] new ≡ false → CanGoOn stored s path new (On w.leaf)
  step_passes i room e h = record {
    lawful = i.lawful;
    fits = i.fits;
    goes = i.goes;
    room = room ∙ i.room;
    stands = ((step i e).stands, i.stands.1);
    left = subst (AllByRecursion (ItemHolds (run_tests stored s))) (step_left i e h) i.left;
  }

-- the inner loops of a lawful schedule can turn
pub can_turn : (s : Schedule) (path : List ℕ) (w : InnerLoops) → AreInnerLoops s path w → IsLawful s → CanTurn s w
can_turn s path w are l = record {
  within = subst (AllByRecursion (λ (x : InnerLoop). x.var < length s.names)) (sym are.items) (inner_loops_within s.nest path (length s.names) (have_slots s l));
  loops = subst (AllByRecursion (λ (x : InnerLoop). is_replaced s.derived x.var ≡ false)) (sym are.items) (inner_loop_loops s.derived s.nest path l.loops);
  count = are.count;
  derived = are.derived;
  guards = are.guards;
}

-- each inner loop has a name
pub inner_loops_named : (s : Schedule) (path : List ℕ) (room : ℕ) (ws : List InnerLoop) → IsLawful s → room ≡ length s.names → ws ≡ last_inner_loops s.nest path → AllByRecursion (λ w. w.var < room) ws
inner_loops_named s path room ws l r e =
    subst (λ (x : List InnerLoop). AllByRecursion (λ w. w.var < room) x) (sym e) (inner_loops_within s.nest path room (subst (λ (n : ℕ). HaveSlots s.nest n) (sym r) (have_slots s l)))
