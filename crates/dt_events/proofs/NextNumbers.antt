-- The least number above one that passes a test, and lists of numbers that don't fall.
use Rattle.std.proofs.Common.{◌≡◌, ℕ, zero, suc, ◌+◌, ◌<◌, ◌≤◌, Bool, false, ◌||◌, List, [], ◌∷◌, ◌++◌, length, get_or, Option, Some, None, refl, sym, ◌∙◌, arith, ⊎_elim}
use Rattle.std.specs.Prelude.{Ok, Err, nat_lt, nat_eq}
use Rattle.std.specs.List.{AllByRecursion}
use Rattle.std.specs.List.Sorted.{IsNonDecreasing, IsBinarySearchResult}
use Rattle.std.specs.Ordering.{nat_cmp}
use Rattle.std.proofs.lemmas.Bool.{cases_lt, ltb-true, ltb-false, eq-eqb, ne_eqb, or_from, or_left, or_right, cond_both}
use Rattle.std.proofs.lemmas.List.Folds.{list_any_at}
use Rattle.std.proofs.lemmas.List.Sorted.{searched}
use Rattle.dt_runs.specs.Sets.{contains}
use Rattle.dt_events.specs.Candidates.{IsNext, sooner}

-- Tests -----------------------------------------------------------------------------------------------------------------

-- of tests that agree
pub next_same : (p q : ℕ → Bool) → ((x : ℕ) → p x ≡ q x) → (m : ℕ) (o : Option ℕ) → IsNext p m o → IsNext q m o
next_same p q h m None n = λ x k. sym (h x) ∙ n x k
next_same p q h m (Some b) n = (n.0, sym (h b) ∙ n.1, λ x k l. sym (h x) ∙ n.2 x k l)

-- of either of two tests
pub next_either : (p q : ℕ → Bool) (m : ℕ) (a b : Option ℕ) → IsNext p m a → IsNext q m b → IsNext (λ x. p x || q x) m (sooner a b)
next_either p q m None None f g = λ x k. or_from (p x) (q x) (f x k) (g x k)
next_either p q m None (Some b) f g = (g.0, or_right (p b) (q b) g.1, λ x k l. or_from (p x) (q x) (f x k) (g.2 x k l))
next_either p q m (Some a) None f g = (f.0, or_left (p a) (q a) f.1, λ x k l. or_from (p x) (q x) (f.2 x k l) (g x k))
next_either p q m (Some a) (Some b) f g =
    cond_both (nat_lt a b) a b (λ c. IsNext (λ x. p x || q x) m (Some c))
    (λ e. let less = ltb-true a b e in (f.0, or_left (p a) (q a) f.1, λ x k l. or_from (p x) (q x) (f.2 x k l) (g.2 x k (omega (arith, l, less)))))
    (λ e. let more = ltb-false a b e in (g.0, or_right (p b) (q b) g.1, λ x k l. or_from (p x) (q x) (f.2 x k (omega (arith, l, more))) (g.2 x k l)))

-- Lists -----------------------------------------------------------------------------------------------------------------

-- no element is x
pub absent : (xs : List ℕ) (x : ℕ) → ((k : ℕ) → k < length xs → get_or xs k 0 ≡ x → ⊥) → contains xs x ≡ false
absent [] x h = refl
absent (y ∷ ys) x h = or_from (nat_eq y x) (contains ys x) (ne_eqb y x (h 0 (omega arith))) (absent ys x (λ k l e. h (suc k) (omega (arith, l)) e))

-- what a binary search found is the next number of a list
pub next_found : (xs : List ℕ) (m i : ℕ) → IsNonDecreasing xs → IsBinarySearchResult (λ y. nat_cmp y (m + 1)) xs (Ok i) → IsNext (contains xs) m (Some (m + 1))
next_found xs m i up is =
    let s = searched xs (m + 1) (Ok i) is (λ i j h k. up i j 0 h k) in
    (omega arith, list_any_at (λ y. nat_eq y (m + 1)) xs i 0 s.0 (eq-eqb (get_or xs i 0) (m + 1) s.1), λ x k l. absurd (omega (arith, k, l)))

-- what lies at the place that it answers is the next one where it found none
pub next_placed : (xs : List ℕ) (m i : ℕ) → IsNonDecreasing xs → IsBinarySearchResult (λ y. nat_cmp y (m + 1)) xs (Err i) → i < length xs → IsNext (contains xs) m (Some (get_or xs i 0))
next_placed xs m i up is h =
    let s = searched xs (m + 1) (Err i) is (λ i j h k. up i j 0 h k) in
    let here = s.2 i (omega arith) h in (
      omega (arith, here),
      list_any_at (λ y. nat_eq y (get_or xs i 0)) xs i 0 h (eq-eqb (get_or xs i 0) (get_or xs i 0) refl),
      λ x k l.
          absent xs x
          (λ j near e.
          ⊎_elim (λ (b : j < i). let f = s.1 j b in omega (arith, f, e, k)) (λ (b : i ≤ j). let f = up i j 0 b near in omega (arith, f, e, l)) (cases_lt j i)),
    )

-- and none follows the end
pub none_placed : (xs : List ℕ) (m i : ℕ) → IsNonDecreasing xs → IsBinarySearchResult (λ y. nat_cmp y (m + 1)) xs (Err i) → length xs ≤ i → IsNext (contains xs) m None
none_placed xs m i up is h =
    let s = searched xs (m + 1) (Err i) is (λ i j h k. up i j 0 h k) in
    λ x k. absent xs x (λ j near e. let f = s.1 j (omega (arith, near, h)) in omega (arith, f, e, k))

-- the list doesn't fall, and begins with no less than low
abbrev pub Rises : ℕ → List ℕ → Type 0
Rises low [] = Unit {0}
Rises low (x ∷ xs) = (low ≤ x) × Rises x xs

lower : (low m : ℕ) (xs : List ℕ) → low ≤ m → Rises m xs → Rises low xs
lower low m [] h r = tt
lower low m (x ∷ xs) h r = (omega (arith, h, r.0), r.1)

-- one after another
pub rises_append : (low m : ℕ) (xs ys : List ℕ) → low ≤ m → Rises low xs → AllByRecursion (λ x. x ≤ m) xs → Rises m ys → Rises low (xs ++ ys)
rises_append low m [] ys h r a s = lower low m ys h s
rises_append low m (x ∷ xs) ys h r a s = (r.0, rises_append x m xs ys a.0 r.1 a.1 s)

rises_from : (low : ℕ) (xs : List ℕ) → Rises low xs → (j d : ℕ) → j < length xs → low ≤ get_or xs j d
rises_from low [] r j d h = absurd (omega (arith, h))
rises_from low (x ∷ xs) r zero d h = r.0
rises_from low (x ∷ xs) r (suc j) d h = let f = rises_from x xs r.1 j d (omega (arith, h)) in omega (arith, f, r.0)

pub rises_up : (low : ℕ) (xs : List ℕ) → Rises low xs → IsNonDecreasing xs
rises_up low [] r i j d h k = absurd (omega (arith, k))
rises_up low (x ∷ xs) r zero zero d h k = omega arith
rises_up low (x ∷ xs) r zero (suc j) d h k = rises_from x xs r.1 j d (omega (arith, k))
rises_up low (x ∷ xs) r (suc i) zero d h k = absurd (omega (arith, h))
rises_up low (x ∷ xs) r (suc i) (suc j) d h k = rises_up x xs r.1 i j d (omega (arith, h)) (omega (arith, k))
