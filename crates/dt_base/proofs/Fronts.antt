-- Fronts of texts.
use Rattle.std.proofs.Common.{◌≡◌, ℕ, ◌+◌, List, ◌++◌, length, take, refl, ap, sym, ◌∙◌, arith, length-append}
use Rattle.std.proofs.lemmas.List.{take-take, take_all, take_at}
use Rattle.dt_base.specs.Fronts.{IsFrontOf}

-- a text begins with itself
pub front_whole : (a b : List ℕ) → b ≡ a → IsFrontOf a b
front_whole a b e = ap (λ (t : List ℕ). take (length a) t) e ∙ take_all (length a) a (omega arith)

-- a text begins with what something was put behind
pub front_more : (a b c : List ℕ) → c ≡ a ++ b → IsFrontOf a c
front_more a b c e = ap (λ (t : List ℕ). take (length a) t) e ∙ take_at a b (length a) refl

-- what begins with a text begins with each front of it
pub front_shorter : (a b c d : List ℕ) → c ≡ a ++ b → IsFrontOf c d → IsFrontOf a d
front_shorter a b c d e h =
    let whole : take (length c) d ≡ a ++ b = h ∙ e in
    let count : length c ≡ length a + length b = ap length e ∙ length-append a b in
    sym (take-take (length a) (length c) d (omega arith)) ∙ ap (λ (t : List ℕ). take (length a) t) whole ∙ take_at a b (length a) refl
