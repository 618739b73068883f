-- Calls that are listed.
use Rattle.std.proofs.Common.{◌≡◌, ◌↔◌, ◌==◌, ℕ, List, Bool, true, false, Contains, IsTrue, sym, refl, ap, ◌∙◌, subst, inl, inr}
use Rattle.std.specs.List.{list_any}
use Rattle.std.proofs.lemmas.Bool.{eqb-true}
use Rattle.std.proofs.lemmas.Bool.Decides.{eqb_tells}
use Rattle.std.proofs.lemmas.List.Folds.{Any-from_list_any, list_any_at}

pub listed_is : (fails : List ℕ) (call : ℕ) (b : Bool) → (IsTrue b ↔ Contains fails call) → b ≡ list_any (λ n. n == call) fails
listed_is fails call b same = both b (list_any (λ n. n == call) fails) (λ h. to (same.0 h)) (λ h. same.1 (from h))
  where
    both : (s t : Bool) → (s ≡ true → t ≡ true) → (t ≡ true → s ≡ true) → s ≡ t
    both true t f g = sym (f refl)
    both false true f g = absurd (let e = g refl in cc)
    both false false f g = refl

    to : Contains fails call → list_any (λ n. n == call) fails ≡ true
    to h = list_any_at (λ y. y == call) fails h.0 call h.1 (ap (λ (y : ℕ). y == call) h.2 ∙ itself call)
      where
        itself : (n : ℕ) → (n == n) ≡ true
        itself n = elim (eqb_tells n n) [ inl e ↦ e.0 | inr e ↦ absurd (e.1 refl) ]

    from : list_any (λ n. n == call) fails ≡ true → Contains fails call
    from h =
        let some = Any-from_list_any (λ y. y == call) fails h in
        let e : some.1 ≡ call = eqb-true some.1 call some.4 in
        subst (λ (y : ℕ). Contains fails y) e (some.0, some.2, some.3)
