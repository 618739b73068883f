-- The run in the order of the list goes operation by operation.
use Rattle.std.proofs.Common.{◌≡◌, ℕ, zero, suc, List, [], ◌∷◌, ◌++◌, Option, Some, None, refl, ap, ◌∙◌, arith}
use Rattle.dt_argument.specs.Frames.{StateOf}
use Rattle.dt_argument.specs.Listings.{Listing}
use Rattle.dt_argument.specs.Orders.{one_more, counts_from, counts_of, none_done, unit, run_from, run_along, times, in_turn}
use Rattle.dt_argument.proofs.Counting.{one_more_same}
use Rattle.dt_argument.proofs.InTurn.{turn_rest}

-- what comes after a state, if there is one
abbrev pub and_then : {S : Type 0} → Option S → (S → Option S) → Option S
and_then None f = None
and_then (Some s) f = f s

module _ {C : Type 0} (l : Listing C) where
  -- the state after so many units of an operation that come after its first i, or none where one of them is undefined
  abbrev pub units_run : ℕ → ℕ → ℕ → StateOf C → Option (StateOf C)
  units_run a i zero s = Some s
  units_run a i (suc k) s = and_then (unit l a (suc i) s) (units_run a (suc i) k)

  -- the state after all units of the first n operations
  abbrev pub ops_run : ℕ → Option (StateOf C)
  ops_run zero = Some l.opening
  ops_run (suc n) = and_then (ops_run n) (units_run n 0 (l.units n))

  -- a list of units runs as its two parts do, one after the other
  run_split : (u v : List ℕ) (d : ℕ → ℕ) (o : Option (StateOf C)) → run_from l d o (u ++ v) ≡ run_from l (counts_from d u) (run_from l d o u) v
  run_split [] v d None = refl
  run_split [] v d (Some s) = refl
  run_split (b ∷ u) v d None = refl
  run_split (b ∷ u) v d (Some s) = run_split u v (one_more d b) (unit l b (suc (d b)) s)

  -- units of one operation
  times_run : (k a : ℕ) (d : ℕ → ℕ) (s : StateOf C) → run_from l d (Some s) (times k a) ≡ units_run a (d a) k s
  times_run zero a d s = refl
  times_run (suc k) a d s = go (unit l a (suc (d a)) s) (λ t. times_run k a (one_more d a) t)
    where
      go : (o : Option (StateOf C)) → ((t : StateOf C) → run_from l (one_more d a) (Some t) (times k a) ≡ units_run a (one_more d a a) k t)
          → run_from l (one_more d a) o (times k a) ≡ and_then o (units_run a (suc (d a)) k)
      go None again = refl
      go (Some t) again = again t ∙ ap (λ i. units_run a i k t) (one_more_same d a)

  -- units of one operation that has not begun, after a state if there is one
  begun_run : (k a : ℕ) (d : ℕ → ℕ) (o : Option (StateOf C)) → d a ≡ 0 → run_from l d o (times k a) ≡ and_then o (units_run a 0 k)
  begun_run k a d None e = refl
  begun_run k a d (Some s) e = times_run k a d s ∙ ap (λ i. units_run a i k s) e

  -- the run of the first n operations in turn is that operation by operation
  pub in_turn_runs : (n : ℕ) → run_along l (in_turn l n) ≡ ops_run n
  in_turn_runs zero = refl
  in_turn_runs (suc n) =
      run_split (in_turn l n) (times (l.units n) n) none_done (Some l.opening)
      ∙ begun_run (l.units n) n (counts_of (in_turn l n)) (run_along l (in_turn l n)) (turn_rest l n n (omega arith))
      ∙ ap (λ o. and_then o (units_run n 0 (l.units n))) (in_turn_runs n)
