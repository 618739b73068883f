-- What runs along allowed lists are.
use Rattle.std.proofs.Common.{◌≡◌, ℕ, zero, suc, ◌<◌, Bool, true, false, List, [], ◌∷◌, Some, None, if◌then◌else◌, refl, sym, ap, ◌∙◌}
use Rattle.dt_argument.specs.Frames.{StateOf, AreAlike}
use Rattle.dt_argument.specs.Listings.{Listing, after_ops, state_at, turn_of}
use Rattle.dt_argument.specs.Facts.{HasFrames, IsOrdered}
use Rattle.dt_argument.specs.Orders.{AreCounts, IsEnabled, IsAllowedFrom, IsAllowed, IsComplete, one_more, counts_from, counts_of, none_done, run_from, run_along, listing_order}
use Rattle.dt_argument.proofs.Counting.{none_are_counts, more_are_counts, counts_kept}
use Rattle.dt_argument.proofs.MovingBack.{same_below, alike_at_turn, defined_at_turn, next_is}
use Rattle.dt_argument.proofs.InTurn.{in_turn_ends}

chosen : {A : Type 0} (t : Bool) (s : A) → t ≡ true → (if t then Some s else None) ≡ Some s
chosen true s h = refl
chosen false s h = cc

some_is : {A : Type 0} (x y : A) → Some x ≡ Some y → x ≡ y
some_is x y e = cc

none_at : {C : Type 0} (l : Listing C) (n : ℕ) → after_ops l n none_done ≡ l.opening
none_at l zero = refl
none_at l (suc n) = none_at l n

module _ {C : Type 0} (l : Listing C) (f : HasFrames l) (o : IsOrdered l) where
  pub run_is : (u : List ℕ) (done : ℕ → ℕ) → AreCounts l done → IsAllowedFrom l done u → run_from l done (Some (state_at l done)) u ≡ Some (state_at l (counts_from done u))
  run_is [] done k h = refl
  run_is (b ∷ u) done k h =
      ap (λ s. run_from l (one_more done b) s u)
      (chosen (l.can b (suc (done b)) (state_at l done)) (l.next b (suc (done b)) (state_at l done)) (defined_at_turn l f o done k b h.0)
      ∙ ap Some (next_is l f o done k b h.0))
      ∙ run_is u (one_more done b) (more_are_counts l done k b h.0) h.1

  -- every allowed list is defined, and leaves the state that its counts name
  pub run_along_is : (u : List ℕ) → IsAllowed l u → run_along l u ≡ Some (state_at l (counts_of u))
  run_along_is u h =
      ap (λ s. run_from l none_done (Some s) u) (sym (none_at l l.count)) ∙ run_is u none_done (none_are_counts l) h

  pub same_counts : (u v : List ℕ) → IsAllowed l u → IsAllowed l v → ((a : ℕ) → a < l.count → counts_of u a ≡ counts_of v a) → run_along l u ≡ run_along l v
  same_counts u v h k same =
      run_along_is u h ∙ ap Some (same_below l l.count (counts_of u) (counts_of v) same) ∙ sym (run_along_is v k)

  -- a complete list ends as the list itself
  pub same_end : (u : List ℕ) → IsAllowed l u → IsComplete l (counts_of u) → run_along l u ≡ run_along l (listing_order l)
  same_end u h full = run_along_is u h ∙ ap Some (same_below l l.count (counts_of u) l.units full) ∙ sym (in_turn_ends l o.defined)

  -- at each turn of a list the state looks to the operation as at that turn in the list itself
  pub same_turn : (u : List ℕ) → IsAllowed l u → (b : ℕ) → IsEnabled l (counts_of u) b → (s : StateOf C) → run_along l u ≡ Some s → AreAlike (l.mode b) s (turn_of l b (counts_of u b))
  same_turn u h b en s e =
      let k = counts_kept l u h in
      let is : state_at l (counts_of u) ≡ s = some_is (state_at l (counts_of u)) s (sym (run_along_is u h) ∙ e) in
      rw (← is) (alike_at_turn l f o (counts_of u) k b en)
