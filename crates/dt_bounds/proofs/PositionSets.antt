-- The set of the positions that pass a test.
use Rattle.std.proofs.Common.{◌≡◌, ℕ, ◌-◌, ◌<◌, ◌≤◌, Bool, true, ◌&&◌, List, [], get_or, Result, Ok, Err, IfOk, refl, ap, sym, ◌∙◌, subst, arith, append-nil}
use Rattle.std.specs.Prelude.{nat_eq, nat_le, nat_lt}
use Rattle.std.specs.List.{All, filter}
use Rattle.std.specs.List.Sorted.{IsStrictlyIncreasing}
use Rattle.std.proofs.lemmas.Bool.{eq-eqb, ltb-true}
use Rattle.std.proofs.lemmas.Bool.Decides.{nat_tests}
use Rattle.std.proofs.lemmas.List.Folds.{list_any_at}
use Rattle.dt_base.specs.Ranges.{below}
use Rattle.dt_model.proofs.ShapeFacts.{both}
use Rattle.dt_runs.specs.Sets.{contains}
use Rattle.dt_runs.proofs.BelowSets.{Ascends-below, contains-below}
use Rattle.dt_runs.proofs.SetLemmas.{filter_by_contains}

-- the ascending list of the positions that pass a test
pub positions_are : (p : ℕ → Bool) (n : ℕ) (found runs : List ℕ) → ((x : ℕ) → contains found x ≡ (nat_lt x n && p x)) → IsStrictlyIncreasing runs → ((x : ℕ) → contains runs x ≡ contains found x) → runs ≡ filter p (below n)
positions_are p n found runs h up same =
    filter_by_contains p runs (below n) (Ascends-below n) up (λ x. same x ∙ h x ∙ ap (λ (b : Bool). b && p x) (sym (contains-below n x)))

-- positions that pass a test are positions
pub positions_below : (p : ℕ → Bool) (n m : ℕ) (found : List ℕ) → n ≤ m → ((x : ℕ) → contains found x ≡ (nat_lt x n && p x)) → All (λ x. x < m) found
positions_below p n m found l h k d within =
    let x : ℕ = get_or found k d in
    let there : contains found x ≡ true = list_any_at (λ y. nat_eq y x) found k d within (eq-eqb x x refl) in
    let small : x < n = ltb-true x n (both (nat_lt x n) (p x) (sym (h x) ∙ there)).0 in
    omega arith

-- a fact of what a call made that follows from two others
pub ok_both : {T E : Type 0} (r : Result T E) (P Q R : T → Type 0) → ((x : T) → P x → Q x → R x) → IfOk r P → IfOk r Q → IfOk r R
ok_both (Ok x) P Q R f p q = f x p q
ok_both (Err e) P Q R f p q = tt
