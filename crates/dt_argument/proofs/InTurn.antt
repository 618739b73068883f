-- The order of the list itself: it is allowed and complete, and each of its units comes at its turn.
use Rattle.std.proofs.Common.{◌≡◌, ◌≢◌, ℕ, zero, suc, ◌+◌, ◌<◌, ◌≤◌, Bool, true, false, List, [], ◌∷◌, ◌++◌, Option, Some, None, is_some, if◌then◌else◌, refl, sym, ap, ◌∙◌, arith, ⊎_elim}
use Rattle.std.proofs.lemmas.Bool.{cases_Bool, cases_lt}
use Rattle.dt_argument.specs.Frames.{StateOf}
use Rattle.dt_argument.specs.Listings.{Listing, after_units, after_ops, state_at, turn_of}
use Rattle.dt_argument.specs.Orders.{IsAllowedFrom, IsAllowed, IsComplete, one_more, counts_from, counts_of, none_done, unit, run_from, run_along, times, in_turn, listing_order}
use Rattle.dt_argument.proofs.Counting.{one_more_same, one_more_other}

counts-append : (d : ℕ → ℕ) (u v : List ℕ) → counts_from d (u ++ v) ≡ counts_from (counts_from d u) v
counts-append d [] v = refl
counts-append d (b ∷ u) v = counts-append (one_more d b) u v

counts_times : (k n : ℕ) (d : ℕ → ℕ) → counts_from d (times k n) n ≡ d n + k
counts_times zero n d = omega arith
counts_times (suc k) n d = let ih = counts_times k n (one_more d n) in let s = one_more_same d n in omega (arith, ih, s)

counts_times_other : (k n a : ℕ) (d : ℕ → ℕ) → a ≢ n → counts_from d (times k n) a ≡ d a
counts_times_other zero n a d h = refl
counts_times_other (suc k) n a d h = counts_times_other k n a (one_more d n) h ∙ one_more_other d n a h

module _ {C : Type 0} (l : Listing C) where
  allowed-append : (u v : List ℕ) (d : ℕ → ℕ) → IsAllowedFrom l d u → IsAllowedFrom l (counts_from d u) v → IsAllowedFrom l d (u ++ v)
  allowed-append [] v d h k = k
  allowed-append (b ∷ u) v d h k = (h.0, allowed-append u v (one_more d b) h.1 k)

  -- the units of one operation are allowed where all before it is finished
  times_allowed : (k n : ℕ) (d : ℕ → ℕ) → n < l.count → ((a : ℕ) → a < n → d a ≡ l.units a) → d n + k ≤ l.units n → IsAllowedFrom l d (times k n)
  times_allowed zero n d h w most = tt
  times_allowed (suc k) n d h w most =
      let s = one_more_same d n in (
        record { exists = h; left = omega arith; waited = λ a e. w a e.0 },
        times_allowed k n (one_more d n) h (λ a lt. one_more_other d n a (omega arith) ∙ w a lt) (omega (arith, s)),
      )

  -- after the first operations in turn the others have not begun, and these are finished
  pub turn_rest : (n a : ℕ) → n ≤ a → counts_of (in_turn l n) a ≡ 0
  turn_rest zero a h = refl
  turn_rest (suc n) a h =
      ap (λ (d : ℕ → ℕ). d a) (counts-append none_done (in_turn l n) (times (l.units n) n))
      ∙ counts_times_other (l.units n) n a (counts_of (in_turn l n)) (omega arith)
      ∙ turn_rest n a (omega arith)

  turn_counts : (n a : ℕ) → a < n → counts_of (in_turn l n) a ≡ l.units a
  turn_counts zero a h = absurd (omega arith)
  turn_counts (suc n) a h =
      ap (λ (d : ℕ → ℕ). d a) (counts-append none_done (in_turn l n) (times (l.units n) n))
      ∙ ⊎_elim
      (λ (lt : a < n). counts_times_other (l.units n) n a (counts_of (in_turn l n)) (omega arith) ∙ turn_counts n a lt)
      (λ (le : n ≤ a).
      let e : a ≡ n = omega arith in
      let none = turn_rest n n (omega arith) in
      let all = counts_times (l.units n) n (counts_of (in_turn l n)) in
      rw e (omega (arith, none, all)))
      (cases_lt a n)

  turn_allowed : (n : ℕ) → n ≤ l.count → IsAllowedFrom l none_done (in_turn l n)
  turn_allowed zero h = tt
  turn_allowed (suc n) h =
      let none = turn_rest n n (omega arith) in
      allowed-append (in_turn l n) (times (l.units n) n) none_done (turn_allowed n (omega arith))
      (times_allowed (l.units n) n (counts_of (in_turn l n)) (omega arith) (turn_counts n) (omega (arith, none)))

  pub listing_is_allowed : IsAllowed l (listing_order l)
  listing_is_allowed = turn_allowed l.count (omega arith)

  pub listing_is_complete : IsComplete l (counts_of (listing_order l))
  listing_is_complete a h = turn_counts l.count a h

  run-append : (u v : List ℕ) (d : ℕ → ℕ) (s : Option (StateOf C)) → run_from l d s (u ++ v) ≡ run_from l (counts_from d u) (run_from l d s u) v
  run-append u v d None = refl
  run-append [] v d (Some s) = refl
  run-append (b ∷ u) v d (Some s) = run-append u v (one_more d b) (unit l b (suc (d b)) s)

  -- one unit of n, where it is defined or not
  one_unit : (k n j : ℕ) (d : ℕ → ℕ) (s : StateOf C) (b : Bool) → d n ≡ j → l.can n (suc j) (after_units l n j s) ≡ b
      → run_from l d (Some (after_units l n j s)) (times (suc k) n) ≡ run_from l (one_more d n) (if b then Some (after_units l n (suc j) s) else None) (times k n)
  one_unit k n j d s b e c =
      ap (λ i. run_from l (one_more d n) (unit l n (suc i) (after_units l n j s)) (times k n)) e
      ∙ ap (λ (t : Bool). run_from l (one_more d n) (if t then Some (after_units l n (suc j) s) else None) (times k n)) c

  -- where a run over the units of n behind its first j is defined, each of them is
  times_back : (k n j : ℕ) (d : ℕ → ℕ) (s : StateOf C) → d n ≡ j → is_some (run_from l d (Some (after_units l n j s)) (times k n)) ≡ true
      → (i : ℕ) → j ≤ i → i < j + k → l.can n (suc i) (after_units l n i s) ≡ true
  times_back zero n j d s e h i a b = absurd (omega arith)
  times_back (suc k) n j d s e h i a b =
      ⊎_elim
      (λ (c : l.can n (suc j) (after_units l n j s) ≡ true).
      let go = one_unit k n j d s true e c in
      ⊎_elim
      (λ (lt : j < i). times_back k n (suc j) (one_more d n) s (one_more_same d n ∙ ap suc e) (ap is_some (sym go) ∙ h) i lt (omega arith))
      (λ (le : i ≤ j). let same : i ≡ j = omega arith in rw same c)
      (cases_lt j i))
      (λ (c : l.can n (suc j) (after_units l n j s) ≡ false).
      let bad : false ≡ true = ap is_some (sym (one_unit k n j d s false e c)) ∙ h in
      absurd (cc))
      (cases_Bool (l.can n (suc j) (after_units l n j s)))

  -- and where each of them is defined, the run is, and leaves the state after them
  times_there : (k n j : ℕ) (d : ℕ → ℕ) (s : StateOf C) → d n ≡ j → ((i : ℕ) → j ≤ i → i < j + k → l.can n (suc i) (after_units l n i s) ≡ true)
      → run_from l d (Some (after_units l n j s)) (times k n) ≡ Some (after_units l n (j + k) s)
  times_there zero n j d s e w = let same : j + 0 ≡ j = omega arith in rw same refl
  times_there (suc k) n j d s e w =
      let same : suc j + k ≡ j + suc k = omega arith in
      one_unit k n j d s true e (w j (omega arith) (omega arith))
      ∙ times_there k n (suc j) (one_more d n) s (one_more_same d n ∙ ap suc e) (λ i a b. w i (omega arith) (omega arith))
      ∙ ap (λ i. Some (after_units l n i s)) same

  some_before : (d : ℕ → ℕ) (o : Option (StateOf C)) (u : List ℕ) → is_some (run_from l d o u) ≡ true → is_some o ≡ true
  some_before d None u h = h
  some_before d (Some s) u h = refl

  -- a run over the first operations in turn is defined where each unit is defined at its turn
  turns_there : (n : ℕ) → ((a k : ℕ) → a < n → k < l.units a → l.can a (suc k) (turn_of l a k) ≡ true)
      → run_from l none_done (Some l.opening) (in_turn l n) ≡ Some (after_ops l n l.units)
  turns_there zero w = refl
  turns_there (suc n) w =
      let same : 0 + l.units n ≡ l.units n = omega arith in
      run-append (in_turn l n) (times (l.units n) n) none_done (Some l.opening)
      ∙ ap (λ o. run_from l (counts_of (in_turn l n)) o (times (l.units n) n)) (turns_there n (λ a k h g. w a k (omega arith) g))
      ∙ times_there (l.units n) n 0 (counts_of (in_turn l n)) (after_ops l n l.units) (turn_rest n n (omega arith)) (λ i a b. w n i (omega arith) (omega arith))
      ∙ ap (λ i. Some (after_units l n i (after_ops l n l.units))) same

  -- a run over the first operations in turn is defined only where each unit is defined at its turn
  turns_back : (n : ℕ) → is_some (run_from l none_done (Some l.opening) (in_turn l n)) ≡ true
      → (run_from l none_done (Some l.opening) (in_turn l n) ≡ Some (after_ops l n l.units)) × ((a k : ℕ) → a < n → k < l.units a → l.can a (suc k) (turn_of l a k) ≡ true)
  turns_back zero h = (refl, λ a k g e. absurd (omega arith))
  turns_back (suc n) h =
      let split = run-append (in_turn l n) (times (l.units n) n) none_done (Some l.opening) in
      let both : is_some (run_from l (counts_of (in_turn l n)) (run_from l none_done (Some l.opening) (in_turn l n)) (times (l.units n) n)) ≡ true = ap is_some (sym split) ∙ h in
      let ih = turns_back n (some_before (counts_of (in_turn l n)) (run_from l none_done (Some l.opening) (in_turn l n)) (times (l.units n) n) both) in
      let last : is_some (run_from l (counts_of (in_turn l n)) (Some (after_ops l n l.units)) (times (l.units n) n)) ≡ true =
      ap (λ o. is_some (run_from l (counts_of (in_turn l n)) o (times (l.units n) n))) (sym ih.0) ∙ both in
      let here = times_back (l.units n) n 0 (counts_of (in_turn l n)) (after_ops l n l.units) (turn_rest n n (omega arith)) last in
      let each : (a k : ℕ) → a < suc n → k < l.units a → l.can a (suc k) (turn_of l a k) ≡ true =
      λ a k g e. ⊎_elim
      (λ (lt : a < n). ih.1 a k lt e)
      (λ (le : n ≤ a). let same : a ≡ n = omega arith in let few : k < l.units n = rw (← same) e in rw same (here k (omega arith) (omega arith)))
      (cases_lt a n) in
      (turns_there (suc n) each, each)

  -- the run in the list's order is defined exactly where each unit is defined at its turn
  pub turn_defined : is_some (run_along l (listing_order l)) ≡ true → (a k : ℕ) → a < l.count → k < l.units a → l.can a (suc k) (turn_of l a k) ≡ true
  turn_defined h = (turns_back l.count h).1

  pub in_turn_ends : is_some (run_along l (listing_order l)) ≡ true → run_along l (listing_order l) ≡ Some (state_at l l.units)
  in_turn_ends h = (turns_back l.count h).0

  pub in_turn_defined : ((a k : ℕ) → a < l.count → k < l.units a → l.can a (suc k) (turn_of l a k) ≡ true) → is_some (run_along l (listing_order l)) ≡ true
  in_turn_defined w = ap is_some (turns_there l.count w)
