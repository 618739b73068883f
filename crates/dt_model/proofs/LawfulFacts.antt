-- What the tests of statements find.
use Rattle.std.proofs.Common.{◌≡◌, ℕ, ◌<◌, ◌≢◌, List, length, get_or, map, refl, ap, sym, ◌∙◌, arith, slice_index, ◌+◌, take, add-one, false, true, ◌↔◌, IsTrue}
use Rattle.std.proofs.lemmas.Bool.{false≢true}
use Rattle.std.proofs.lemmas.List.{take_more, take_all}
use Rattle.dt_base.specs.Ranges.{below}
use Rattle.dt_base.proofs.Ranges.{get_or-below}

-- a test that fails answers false
fails : {P : Type 0} → (P → ⊥) → IsTrue false ↔ P
fails h = (λ e. absurd (false≢true e), λ p. absurd (h p))

-- a test that holds answers true
holds : {P : Type 0} → P → IsTrue true ↔ P
holds p = (λ _. p, λ _. refl)

-- variables of which one is not at its own place
pub not_counted : (vars : List ℕ) (i : ℕ) → i < length vars → get_or vars i 0 ≢ i → IsTrue false ↔ (vars ≡ below (length vars))
not_counted vars i h other = fails (λ e. other (ap (λ (v : List ℕ). get_or v i 0) e ∙ get_or-below (length vars) i 0 h))

-- one more variable at its own place
pub counted_more : (vars : List ℕ) (i : ℕ) → i < length vars → get_or vars i 0 ≡ i → take i vars ≡ below i → take (i + 1) vars ≡ below (i + 1)
counted_more vars i h e front = rw (take_more vars i 0 h, e, front, add-one) refl

-- variables that are all at their own places
pub counted : (vars : List ℕ) (i : ℕ) → i ≡ length vars → take i vars ≡ below i → IsTrue true ↔ (vars ≡ below (length vars))
counted vars i e front = holds (sym (take_all i vars (omega arith)) ∙ front ∙ ap below e)

-- extents that are all their variables'
pub same_extents : (dims vars extents : List ℕ) (i : ℕ) → i ≡ length vars → length dims ≡ length vars → take i dims ≡ map (λ v. slice_index extents v) (take i vars)
    → IsTrue true ↔ (dims ≡ map (λ v. slice_index extents v) vars)
same_extents dims vars extents i e n front =
    holds (sym (take_all i dims (omega arith)) ∙ front ∙ ap (λ (v : List ℕ). map (λ v. slice_index extents v) v) (take_all i vars (omega arith)))
