-- Fills grow position by position.
use Rattle.std.proofs.Common.{◌≡◌, ℕ, zero, suc, ◌+◌, ◌/◌, ◌^◌, List, [], ◌∷◌, ◌++◌, map, length, length-append, refl, ap, sym, ◌∙◌, add-one, arith}
use Rattle.std.proofs.lemmas.List.{length-map, map-append}
use Rattle.dt_base.specs.Ranges.{below}
use Rattle.dt_base.proofs.Ranges.{length-below, map_below-more}
use Rattle.dt_job.specs.Fills.{next_state, ramp_values, seed_values, state_after}

-- one more position of a ramp
pub ramp_values-more : (n k : ℕ) (front after : List ℕ) → k ≡ n → front ≡ ramp_values n → after ≡ front ++ (k + 1) ∷ [] → after ≡ ramp_values (n + 1)
ramp_values-more n k front after e f a = a ∙ ap (λ (xs : List ℕ). xs ++ (k + 1) ∷ []) f ∙ ap (λ (m : ℕ). ramp_values n ++ (m + 1) ∷ []) e ∙ sym (map_below-more (λ p. p + 1) n)

-- one more step from a seed
pub state_after-more : (seed n state next : ℕ) → state ≡ state_after seed n → next ≡ next_state state → next ≡ state_after seed (n + 1)
state_after-more seed n state next s e = rw add-one (e ∙ ap next_state s)

-- one more position that a seed fills
pub seed_values-more : (seed n next : ℕ) (front after : List ℕ) → next ≡ state_after seed (n + 1) → front ≡ seed_values seed n → after ≡ front ++ (next / 2 ^ 33) ∷ [] → after ≡ seed_values seed (n + 1)
seed_values-more seed n next front after s f a =
    a ∙ ap (λ (xs : List ℕ). xs ++ (next / 2 ^ 33) ∷ []) f ∙ ap (λ (k : ℕ). seed_values seed n ++ (k / 2 ^ 33) ∷ []) s ∙ sym (map_below-more (λ p. state_after seed (p + 1) / 2 ^ 33) n)

-- a ramp has a number for each position
pub length-ramp_values : (n : ℕ) → length (ramp_values n) ≡ n
length-ramp_values n = length-map (below n) (λ p. p + 1) ∙ length-below n

-- a seed gives a number for each position
pub length-seed_values : (seed n : ℕ) → length (seed_values seed n) ≡ n
length-seed_values seed n = length-map (below n) (λ p. state_after seed (p + 1) / 2 ^ 33) ∙ length-below n

-- a fill has a number for each position
pub ruleset counts = (length-ramp_values, length-seed_values)
