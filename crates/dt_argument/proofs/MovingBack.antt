-- A new unit moves back to its place in the list.
use Rattle.std.proofs.Common.{◌≡◌, ◌≢◌, ℕ, zero, suc, ◌<◌, ◌≤◌, true, false, refl, sym, ap, ◌∙◌, arith, ⊎_elim}
use Rattle.std.proofs.lemmas.Bool.{cases_Bool, cases_lt}
use Rattle.dt_argument.specs.Frames.{StateOf, AreApart, AreAlike}
use Rattle.dt_argument.specs.Listings.{Listing, after_units, after_ops, state_at, turn_of}
use Rattle.dt_argument.specs.Facts.{HasFrames, IsOrdered}
use Rattle.dt_argument.specs.Orders.{AreCounts, IsEnabled, one_more}
use Rattle.dt_argument.proofs.Commuting.{commute, defined_after, apart_either}
use Rattle.dt_argument.proofs.Alike.{alike_refl, alike_sym, alike_trans, presence, still_alike, alike_after}
use Rattle.dt_argument.proofs.InTurn.{turn_defined}
use Rattle.dt_argument.proofs.Counting.{one_more_same, one_more_other, finished, begun_finished}

-- what is done of the operations below j decides the state
pub same_below : {C : Type 0} (l : Listing C) (j : ℕ) (d e : ℕ → ℕ) → ((a : ℕ) → a < j → d a ≡ e a) → after_ops l j d ≡ after_ops l j e
same_below l zero d e h = refl
same_below l (suc j) d e h =
    ap (λ k. after_units l j k (after_ops l j d)) (h j (omega arith))
    ∙ ap (after_units l j (e j)) (same_below l j d e (λ a lt. h a (omega arith)))

module _ {C : Type 0} (l : Listing C) (f : HasFrames l) where
  -- units of a leave alike what an operation apart from it sees
  alike_units : (a b k : ℕ) → a < l.count → b < l.count → AreApart (l.mode a) (l.mode b) → (s : StateOf C) → AreAlike (l.mode b) s (after_units l a k s)
  alike_units a b zero ha hb h s = alike_refl (l.mode b) s
  alike_units a b (suc k) ha hb h s =
      alike_trans (l.mode b) s (after_units l a k s) (after_units l a (suc k) s)
      (alike_units a b k ha hb h s)
      (alike_after (l.mode a) (l.mode b) (l.can a (suc k)) (l.can b (suc k)) (l.next a (suc k)) (l.next b (suc k)) (f.framed a (suc k) ha) (f.framed b (suc k) hb) h (after_units l a k s))

  -- the same units of a keep two states alike for a itself and for b
  still_own : (a k : ℕ) → a < l.count → (s t : StateOf C) → AreAlike (l.mode a) s t → AreAlike (l.mode a) (after_units l a k s) (after_units l a k t)
  still_own a zero ha s t h = h
  still_own a (suc k) ha s t h =
      still_alike (l.mode a) (l.mode a) (l.can a (suc k)) (l.next a (suc k)) (f.framed a (suc k) ha) (after_units l a k s) (after_units l a k t) (still_own a k ha s t h) (still_own a k ha s t h)

  still_units : (a b k : ℕ) → a < l.count → (s t : StateOf C) → AreAlike (l.mode a) s t → AreAlike (l.mode b) s t → AreAlike (l.mode b) (after_units l a k s) (after_units l a k t)
  still_units a b zero ha s t h g = g
  still_units a b (suc k) ha s t h g =
      still_alike (l.mode a) (l.mode b) (l.can a (suc k)) (l.next a (suc k)) (f.framed a (suc k) ha) (after_units l a k s) (after_units l a k t) (still_own a k ha s t h) (still_units a b k ha s t h g)

  -- a unit of b and units of an operation apart from it change places
  commute_units : (a b j k : ℕ) → a < l.count → b < l.count → AreApart (l.mode a) (l.mode b) → (s : StateOf C) → after_units l a k (l.next b j s) ≡ l.next b j (after_units l a k s)
  commute_units a b j zero ha hb h s = refl
  commute_units a b j (suc k) ha hb h s =
      ap (l.next a (suc k)) (commute_units a b j k ha hb h s)
      ∙ sym (commute (l.mode a) (l.mode b) (l.can a (suc k)) (l.can b j) (l.next a (suc k)) (l.next b j) (f.framed a (suc k) ha) (f.framed b j hb) h (after_units l a k s))

  -- and b's unit is defined before them exactly where it is after them
  defined_units : (a b j k : ℕ) → a < l.count → b < l.count → AreApart (l.mode a) (l.mode b) → (s : StateOf C) → l.can b j s ≡ l.can b j (after_units l a k s)
  defined_units a b j zero ha hb h s = refl
  defined_units a b j (suc k) ha hb h s =
      defined_units a b j k ha hb h s
      ∙ defined_after (l.mode a) (l.mode b) (l.can a (suc k)) (l.can b j) (l.next a (suc k)) (l.next b j) (f.framed a (suc k) ha) (f.framed b j hb) h (after_units l a k s)

  module _ (o : IsOrdered l) (done : ℕ → ℕ) (k : AreCounts l done) where
    -- to b, whose conflicting operations are finished, the operations below j leave a state alike to that of the list
    alike_ops : (j b : ℕ) → j ≤ b → b < l.count → ((e : ℕ) → e < j → l.conflict e b ≡ true → done e ≡ l.units e) → AreAlike (l.mode b) (after_ops l j done) (after_ops l j l.units)
    alike_ops zero b h hb w = alike_refl (l.mode b) l.opening
    alike_ops (suc j) b h hb w =
        let hj : j < l.count = omega arith in
        let here : AreAlike (l.mode b) (after_ops l j done) (after_ops l j l.units) = alike_ops j b (omega arith) hb (λ e le c. w e (omega arith) c) in
        ⊎_elim
        (λ (c : l.conflict j b ≡ true).
        let full : done j ≡ l.units j = w j (omega arith) c in
        let some : 0 < l.units j = o.has_unit j hj in
        let own : AreAlike (l.mode j) (after_ops l j done) (after_ops l j l.units) = alike_ops j j (omega arith) hj (λ e le d. begun_finished l o done k e j le hj (omega arith) d) in
        rw full (still_units j b (l.units j) hj (after_ops l j done) (after_ops l j l.units) own here))
        (λ (c : l.conflict j b ≡ false).
        let far : AreApart (l.mode j) (l.mode b) = f.apart j b (omega arith) hb c in
        alike_trans (l.mode b) (after_ops l (suc j) done) (after_ops l j l.units) (after_ops l (suc j) l.units)
        (alike_trans (l.mode b) (after_ops l (suc j) done) (after_ops l j done) (after_ops l j l.units)
        (alike_sym (l.mode b) (after_ops l j done) (after_ops l (suc j) done) (alike_units j b (done j) hj hb far (after_ops l j done)))
        here)
        (alike_units j b (l.units j) hj hb far (after_ops l j l.units)))
        (cases_Bool (l.conflict j b))

    module _ (b : ℕ) (en : IsEnabled l done b) where
      -- at its place in the list the new unit finds what it finds at its turn
      alike_here : AreAlike (l.mode b) (after_units l b (done b) (after_ops l b done)) (turn_of l b (done b))
      alike_here =
          still_own b (done b) en.exists (after_ops l b done) (after_ops l b l.units)
          (alike_ops b b (omega arith) en.exists (λ e le c. finished l o done k e b le en.exists en.waited c))

      -- a later operation that has begun does not conflict with b
      later_apart : (m : ℕ) → b < m → m < l.count → 0 < done m → AreApart (l.mode m) (l.mode b)
      later_apart m h hm g =
          ⊎_elim
          (λ (c : l.conflict b m ≡ true).
          let full : done b ≡ l.units b = begun_finished l o done k b m h hm g c in
          let some : done b < l.units b = en.left in
          absurd (omega arith))
          (λ (c : l.conflict b m ≡ false). apart_either (l.mode b) (l.mode m) (f.apart b m h hm c))
          (cases_Bool (l.conflict b m))

      -- so the state looks the same to b behind the later operations
      alike_later : (m : ℕ) → b < m → m < l.count → (j : ℕ) → done m ≡ j → (s : StateOf C) → AreAlike (l.mode b) s (after_units l m j s)
      alike_later m h hm zero e s = alike_refl (l.mode b) s
      alike_later m h hm (suc j) e s = alike_units m b (suc j) hm en.exists (later_apart m h hm (omega arith)) s

      alike_behind : (j : ℕ) → b < j → j ≤ l.count → AreAlike (l.mode b) (after_ops l j done) (turn_of l b (done b))
      alike_behind zero h hj = absurd (omega arith)
      alike_behind (suc j) h hj =
          ⊎_elim
          (λ (lt : b < j).
          alike_trans (l.mode b) (after_ops l (suc j) done) (after_ops l j done) (turn_of l b (done b))
          (alike_sym (l.mode b) (after_ops l j done) (after_ops l (suc j) done) (alike_later j lt (omega arith) (done j) refl (after_ops l j done)))
          (alike_behind j lt (omega arith)))
          (λ (le : j ≤ b). let e : j ≡ b = omega arith in rw e alike_here)
          (cases_lt b j)

      -- at the turn of a unit the state looks to its operation as at that turn in the list
      pub alike_at_turn : AreAlike (l.mode b) (state_at l done) (turn_of l b (done b))
      alike_at_turn = alike_behind l.count en.exists (omega arith)

      -- so the unit is defined, as it is there
      pub defined_at_turn : l.can b (suc (done b)) (state_at l done) ≡ true
      defined_at_turn =
          (f.framed b (suc (done b)) en.exists).defined (state_at l done) (turn_of l b (done b)) (presence (l.mode b) (state_at l done) (turn_of l b (done b)) alike_at_turn)
          ∙ turn_defined l o.defined b (done b) en.exists en.left

      moved_past : (m : ℕ) → b < m → m < l.count → (j : ℕ) → done m ≡ j → (s : StateOf C) → after_units l m j (l.next b (suc (done b)) s) ≡ l.next b (suc (done b)) (after_units l m j s)
      moved_past m h hm zero e s = refl
      moved_past m h hm (suc j) e s = commute_units m b (suc (done b)) (suc j) hm en.exists (later_apart m h hm (omega arith)) s

      moved_back : (j : ℕ) → b < j → j ≤ l.count → after_ops l j (one_more done b) ≡ l.next b (suc (done b)) (after_ops l j done)
      moved_back zero h hj = absurd (omega arith)
      moved_back (suc j) h hj =
          ⊎_elim
          (λ (lt : b < j).
          let ne : j ≢ b = omega arith in
          ap (λ i. after_units l j i (after_ops l j (one_more done b))) (one_more_other done b j ne)
          ∙ ap (after_units l j (done j)) (moved_back j lt (omega arith))
          ∙ moved_past j lt (omega arith) (done j) refl (after_ops l j done))
          (λ (le : j ≤ b).
          let e : j ≡ b = omega arith in
          rw e (ap (λ i. after_units l b i (after_ops l b (one_more done b))) (one_more_same done b)
          ∙ ap (after_units l b (suc (done b))) (same_below l b (one_more done b) done (λ a la. one_more_other done b a (omega arith)))))
          (cases_lt b j)

      -- the new unit moves back to its place
      pub next_is : l.next b (suc (done b)) (state_at l done) ≡ state_at l (one_more done b)
      next_is = sym (moved_back l.count en.exists (omega arith))
