-- Each conflicting pair is joined by a chain of events, by induction on the distance of the pair.
use Rattle.std.proofs.Common.{◌≡◌, ℕ, zero, suc, ◌+◌, ◌<◌, ◌≤◌, Bool, true, false, not, arith, ⊎_elim, ltb-true}
use Rattle.std.proofs.lemmas.Bool.{cases_Bool, and_parts, and_from, or_cases, not_from_false}
use Rattle.dt_argument.specs.Events.{any_below, is_between, nearest, Chain, Last, Then}

-- a test that holds of some number below n holds of one
found_below : (test : ℕ → Bool) (n : ℕ) → any_below test n ≡ true → (x : ℕ) × (x < n) × (test x ≡ true)
found_below test zero h = absurd (cc)
found_below test (suc n) h =
    ⊎_elim
    (λ (e : test n ≡ true). (n, omega arith, e))
    (λ (e : any_below test n ≡ true). let r = found_below test n e in (r.0, omega (arith, r.1), r.2))
    (or_cases (test n) (any_below test n) h)

-- chains one after another are a chain
pub joined : {event : ℕ → ℕ → Bool} {a b : ℕ} (c : ℕ) → Chain event a b → Chain event b c → Chain event a c
joined c (Last e) k = Then e k
joined c (Then e h) k = Then e (joined c h k)

-- a chain leads to an operation behind
pub chain_up : {event : ℕ → ℕ → Bool} {a b : ℕ} → Chain event a b → a < b
chain_up (Last e) = e.0
chain_up (Then e c) = omega (arith, e.0, chain_up c)

module _ (conflict : ℕ → ℕ → Bool) where
  chain_within : (n a b : ℕ) → a < b → b ≤ a + n → conflict a b ≡ true → Chain (nearest conflict) a b
  chain_within zero a b h near k = absurd (omega arith)
  chain_within (suc n) a b h near k =
      ⊎_elim
      (λ (e : any_below (is_between conflict a b) b ≡ true).
      let r = found_below (is_between conflict a b) b e in
      let x : ℕ = r.0 in
      let below : x < b = r.1 in
      let parts = and_parts _ _ r.2 in
      let above : a < x = ltb-true a x parts.0 in
      let both = and_parts _ _ parts.1 in
      joined b (chain_within n a x above (omega arith) both.0) (chain_within n x b below (omega arith) both.1))
      (λ (e : any_below (is_between conflict a b) b ≡ false).
      Last (h, and_from (conflict a b) (not (any_below (is_between conflict a b) b)) k (not_from_false (any_below (is_between conflict a b) b) e)))
      (cases_Bool (any_below (is_between conflict a b) b))

  pub chain : (a b : ℕ) → a < b → conflict a b ≡ true → Chain (nearest conflict) a b
  chain a b h k = chain_within b a b h (omega arith) k
