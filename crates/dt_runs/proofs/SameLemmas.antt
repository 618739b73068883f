-- Intervals that are apart are determined by their numbers.
use Rattle.std.proofs.Common.{◌≡◌, ℕ, suc, ◌+◌, ◌-◌, ◌<◌, ◌≤◌, List, [], ◌∷◌, refl, ap, ◌∙◌, sym, arith, true, ◌&&◌, ◌==◌, inl, inr, subst}
use Rattle.std.specs.Bool.{Decides}
use Rattle.std.proofs.lemmas.Bool.Decides.{nat_tests, leb_tells}
use Rattle.dt_runs.specs.declared.interval.Interval.{Interval}
use Rattle.dt_runs.specs.Intervals.{numbers_of, IsApart, IsTallied}
use Rattle.dt_runs.specs.Sets.{contains}
use Rattle.dt_runs.proofs.SweepLemmas.{covers, contains-numbers_of, covers-below, covers-first}

-- a first interval begins no later than another list has a number
first_le-first : (low high : ℕ) (i : Interval) (is : List Interval) (j : Interval) (js : List Interval) → IsApart low (i ∷ is) → IsApart high (j ∷ js)
    → covers (i ∷ is) i.first ≡ covers (j ∷ js) i.first → j.first ≤ i.first
first_le-first low high i is j js a b same =
    grind (arith, nat_tests, covers-below j.first (j ∷ js) i.first (omega arith, b.1, b.2), covers-first i is i.first (omega arith) a.1)

-- it ends no earlier than another that begins with it
end_le-end : (low high : ℕ) (i : Interval) (is : List Interval) (j : Interval) (js : List Interval) → IsApart low (i ∷ is) → IsApart high (j ∷ js)
    → i.first ≡ j.first → covers (i ∷ is) i.end ≡ covers (j ∷ js) i.end → j.end ≤ i.end
end_le-end low high i is j js a b at same = grind (arith, nat_tests, covers-below (suc i.end) is i.end a.2 (omega arith))

covers-behind : (i : Interval) (is : List Interval) (x : ℕ) → i.end < x → covers (i ∷ is) x ≡ covers is x
covers-behind i is x lt = grind (arith, nat_tests)

covers-rests : (low high : ℕ) (i : Interval) (is : List Interval) (j : Interval) (js : List Interval) → IsApart low (i ∷ is) → IsApart high (j ∷ js) → i.end ≡ j.end
    → ((x : ℕ) → covers (i ∷ is) x ≡ covers (j ∷ js) x) → (x : ℕ) → covers is x ≡ covers js x
covers-rests low high i is j js a b to same x = elim (leb_tells x i.end) [
  | inl h ↦ covers-below (suc i.end) is x a.2 (omega arith) ∙ sym (covers-below (suc j.end) js x b.2 (omega arith))
  | inr h ↦ sym (covers-behind i is x (omega arith)) ∙ same x ∙ covers-behind j js x (omega arith)
]

same_interval : (i j : Interval) → i.first ≡ j.first → i.end ≡ j.end → i.before ≡ j.before → i ≡ j
same_interval i j at to before =
    let with_first : ℕ → Interval = λ f. record { first = f; end = i.end; before = i.before } in
    let with_end : ℕ → Interval = λ e. record { first = j.first; end = e; before = i.before } in
    let with_before : ℕ → Interval = λ b. record { first = j.first; end = j.end; before = b } in
    ap with_first at ∙ ap with_end to ∙ ap with_before before

same_by_covers : (low high n : ℕ) (is js : List Interval) → IsApart low is → IsApart high js → IsTallied n is → IsTallied n js
    → ((x : ℕ) → covers is x ≡ covers js x) → is ≡ js
same_by_covers low high n [] [] a b s t same = refl
same_by_covers low high n [] (j ∷ js) a b s t same = let here = covers-first j js j.first (omega arith) b.1 in let other = same j.first in cc
same_by_covers low high n (i ∷ is) [] a b s t same = let here = covers-first i is i.first (omega arith) a.1 in let other = same i.first in cc
same_by_covers low high n (i ∷ is) (j ∷ js) a b s t same =
    let above : j.first ≤ i.first = first_le-first low high i is j js a b (same i.first) in
    let below : i.first ≤ j.first = first_le-first high low j js i is b a (sym (same j.first)) in
    let at : i.first ≡ j.first = omega arith in
    let longer : j.end ≤ i.end = end_le-end low high i is j js a b at (same i.end) in
    let shorter : i.end ≤ j.end = end_le-end high low j js i is b a (sym at) (sym (same j.end)) in
    let to : i.end ≡ j.end = omega arith in
    let count : n + (i.end - i.first) ≡ n + (j.end - j.first) = omega arith in
    let tallied : IsTallied (n + (i.end - i.first)) js = rw count t.1 in
    let rests : is ≡ js = same_by_covers (suc i.end) (suc j.end) (n + (i.end - i.first)) is js a.2 b.2 s.1 tallied (covers-rests low high i is j js a b to same) in
    ap (λ k. k ∷ is) (same_interval i j at to (omega arith)) ∙ ap (λ ks. j ∷ ks) rests

-- equal lists have equal intervals
pub same_by_numbers_of : (is js : List Interval) → IsApart 0 is → IsApart 0 js → IsTallied 0 is → IsTallied 0 js → numbers_of is ≡ numbers_of js → is ≡ js
same_by_numbers_of is js a b s t same =
    same_by_covers 0 0 0 is js a b s t (λ x. sym (contains-numbers_of is x) ∙ ap (λ xs. contains xs x) same ∙ contains-numbers_of js x)

-- the fields' tests decide whether two intervals are the same
pub interval_eq-Decides : (i j : Interval) → Decides ((i.first == j.first) && ((i.end == j.end) && (i.before == j.before))) (i ≡ j)
interval_eq-Decides i j = (
  λ h. same_interval i j (grind (arith, nat_tests)) (grind (arith, nat_tests)) (grind (arith, nat_tests)),
  λ e. subst (λ (k : Interval). ((i.first == k.first) && ((i.end == k.end) && (i.before == k.before))) ≡ true) e (grind (arith, nat_tests)),
)
