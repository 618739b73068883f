-- How a run goes on from one place to the next.
use Rattle.std.proofs.Common.{◌≡◌, ℕ, suc, ◌+◌, ◌<◌, ◌≤◌, Bool, true, false, List, [], ◌∷◌, ◌++◌, length, map, drop, Some, None, refl, sym, ap, ◌∙◌, subst, arith, get_or, drop-cons}
use Rattle.std.specs.Prelude.{slice_get, nat_lt}
use Rattle.std.specs.List.{AllByRecursion}
use Rattle.std.proofs.lemmas.Bool.{ltb-true, ltb-false}
use Rattle.std.proofs.lemmas.List.{drop_all}
use Rattle.std.proofs.lemmas.Option.{slice_get_within, get_or_from_slice_get, slice_get-get_or}
use Rattle.dt_model.specs.Positions.{StoredTensor}
use Rattle.dt_nest.specs.declared.search.Stand.{Stand}
use Rattle.dt_nest.specs.declared.progress.Progress.{Progress}
use Rattle.dt_nest.specs.declared.progress.Progress.TheVariants.{Before, Resetting, On, Done}
use Rattle.dt_nest.specs.Tree.{Tree}
use Rattle.dt_nest.specs.Schedule.{Schedule}
use Rattle.dt_nest.specs.Visits.{at_root, Item, IsReset, Tests}
use Rattle.dt_nest.specs.Search.{HaveSlots, works_at, item_at, after, Reaches, Finds, Steps}
use Rattle.dt_nest.specs.Run.{run_tests, left_of, Stands, ItemHolds, LastHolds, last_of, CanGoOn, IsSound, Moves, ArrivesAt}
use Rattle.dt_nest.proofs.Holding.{item-visit}
use Rattle.dt_nest.proofs.OwnSlots.{have_slots}

drop_some : (xs : List ℕ) (k x : ℕ) → slice_get xs k ≡ Some x → drop k xs ≡ x ∷ drop (k + 1) xs
drop_some xs k x e =
    let l : k < length xs = slice_get_within xs k x e in
    let s : suc k ≡ k + 1 = omega arith in
    drop-cons xs k 0 l ∙ ap (λ (y : ℕ). y ∷ drop (suc k) xs) (get_or_from_slice_get xs k x 0 e) ∙ ap (λ (m : ℕ). x ∷ drop m xs) s

drop_none : (xs : List ℕ) (k : ℕ) → slice_get xs k ≡ None → drop k xs ≡ []
drop_none xs k e = go (nat_lt k (length xs)) (ltb-true k (length xs)) (ltb-false k (length xs))
  where
    go : (b : Bool) → (b ≡ true → k < length xs) → (b ≡ false → length xs ≤ k) → drop k xs ≡ []
    go true l m = let f : slice_get xs k ≡ Some (get_or xs k 0) = slice_get-get_or xs k 0 (l refl) in absurd (cc)
    go false l m = drop_all k xs (m refl)

-- the item that a run comes to after a leaf was reached
pub arrives : (t : Tests) (tree : Tree) (path : List ℕ) (list : List Item) (slots : List ℕ) (leaf past : ℕ) (q : Progress) → Reaches t tree at_root path list slots leaf past → ArrivesAt (slice_get (works_at tree leaf) past) leaf past q
    → Moves t tree path list slots q × Stands tree slots q
arrives t tree path list slots leaf past Before r a = absurd a
arrives t tree path list slots leaf past Done r a = absurd a
arrives t tree path list slots leaf past (On l) r a =
    subst (λ (k : ℕ). Moves t tree path list slots (On k) × Stands tree slots (On k)) (sym a.0) (
      r.items
          ∙ ap (λ (ws : List ℕ). map IsReset ws ++ item_at t tree at_root slots leaf ∷ after t tree at_root slots path leaf) (drop_none (works_at tree leaf) past a.1)
          ∙ ap (λ (i : Item). i ∷ after t tree at_root slots path leaf) (item-visit t tree at_root slots leaf),
      (r.stands, r.exists),
    )
arrives t tree path list slots leaf past (Resetting l m work) r a =
    subst (λ (k : ℕ). Moves t tree path list slots (Resetting k m work) × Stands tree slots (Resetting k m work)) (sym a.0)
    (subst (λ (k : ℕ). Moves t tree path list slots (Resetting leaf k work) × Stands tree slots (Resetting leaf k work)) (sym a.1) (
      r.items ∙ ap (λ (ws : List ℕ). map IsReset ws ++ item_at t tree at_root slots leaf ∷ after t tree at_root slots path leaf) (drop_some (works_at tree leaf) past work a.2),
      (r.stands, r.exists, let l = slice_get_within (works_at tree leaf) past work a.2 in omega (arith, l)),
    ))

-- a run that has been sound is so at the next place
pub sound_after : (stored : List StoredTensor) (s : Schedule) (path slots new : List ℕ) (p q : Progress) → CanGoOn stored s path slots p → length new ≡ length slots
    → Moves (run_tests stored s) s.nest path (left_of (run_tests stored s) s.nest path slots p) new q × Stands s.nest new q → IsSound stored s path new q
sound_after stored s path slots new p q i e m = record {
  on = record {
    lawful = i.lawful;
    fits = i.fits;
    goes = i.goes;
    room = e ∙ i.room;
    stands = m.1;
    left = (holds q m.0).1;
  };
  last = (holds q m.0).0;
}
  where
    holds : (q : Progress) → Moves (run_tests stored s) s.nest path (left_of (run_tests stored s) s.nest path slots p) new q
        → LastHolds (run_tests stored s) (last_of (run_tests stored s) s.nest new q) × AllByRecursion (ItemHolds (run_tests stored s)) (left_of (run_tests stored s) s.nest path new q)
    holds Before h = absurd h
    holds (Resetting leaf past work) h = (tt, (subst (AllByRecursion (ItemHolds (run_tests stored s))) h i.left).1)
    holds (On leaf) h = let r = subst (AllByRecursion (ItemHolds (run_tests stored s))) h i.left in (r.0, r.1)
    holds Done h = (tt, tt)

-- a run that has come behind a reset
pub still_there : (stored : List StoredTensor) (s : Schedule) (path slots : List ℕ) (leaf past work : ℕ) → CanGoOn stored s path slots (Resetting leaf past work)
    → Reaches (run_tests stored s) s.nest at_root path (left_of (run_tests stored s) s.nest path slots (Resetting leaf past work)) slots leaf past
still_there stored s path slots leaf past work i = record { items = refl; stands = i.stands.0; exists = i.stands.1; resets = i.stands.2 }

-- each loop has a slot of its own
pub sound_room : (stored : List StoredTensor) (s : Schedule) (path slots : List ℕ) (p : Progress) → CanGoOn stored s path slots p → HaveSlots s.nest (length slots)
sound_room stored s path slots p i = subst (λ (k : ℕ). HaveSlots s.nest k) (sym i.room) (have_slots s i.lawful)

module _ (stored : List StoredTensor) (s : Schedule) (path slots new : List ℕ) (p q : Progress) (i : CanGoOn stored s path slots p) where
  -- from the start to a first visit
  pub from_start : (leaf : ℕ) → p ≡ Before → Finds (run_tests stored s) s.nest [] path slots new (Some leaf) → ArrivesAt (slice_get (works_at s.nest leaf) 0) leaf 0 q
      → Moves (run_tests stored s) s.nest path (left_of (run_tests stored s) s.nest path slots p) new q × Stands s.nest new q
  from_start leaf e f a =
      subst (λ (r : Progress). Moves (run_tests stored s) s.nest path (left_of (run_tests stored s) s.nest path slots r) new q × Stands s.nest new q) (sym e)
      (arrives (run_tests stored s) s.nest path (left_of (run_tests stored s) s.nest path slots Before) new leaf 0 q (f.goes.0 []) a)

  -- from a visit to the next one
  pub from_visit : (leaf : ℕ) (at : Stand) → p ≡ On leaf → Steps (run_tests stored s) s.nest [] path leaf slots new (Some at) → ArrivesAt (slice_get (works_at s.nest at.leaf) at.past) at.leaf at.past q
      → Moves (run_tests stored s) s.nest path (left_of (run_tests stored s) s.nest path slots p) new q × Stands s.nest new q
  from_visit leaf at e f a =
      subst (λ (r : Progress). Moves (run_tests stored s) s.nest path (left_of (run_tests stored s) s.nest path slots r) new q × Stands s.nest new q) (sym e)
      (arrives (run_tests stored s) s.nest path (left_of (run_tests stored s) s.nest path slots (On leaf)) new at.leaf at.past q (f.goes.0 []) a)

  -- from a reset on
  pub from_reset : (leaf past work : ℕ) → p ≡ Resetting leaf past work → ArrivesAt (slice_get (works_at s.nest leaf) past) leaf past q
      → Moves (run_tests stored s) s.nest path (left_of (run_tests stored s) s.nest path slots p) slots q × Stands s.nest slots q
  from_reset leaf past work e a =
      subst (λ (r : Progress). Moves (run_tests stored s) s.nest path (left_of (run_tests stored s) s.nest path slots r) slots q × Stands s.nest slots q) (sym e)
      (arrives (run_tests stored s) s.nest path (left_of (run_tests stored s) s.nest path slots (Resetting leaf past work)) slots leaf past q
      (still_there stored s path slots leaf past work (subst (CanGoOn stored s path slots) e i)) a)
