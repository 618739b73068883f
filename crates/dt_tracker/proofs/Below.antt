-- Sums, searches and lists over a range, when one number of it changes.
use Rattle.std.proofs.Common.{◌≡◌, ◌≢◌, ℕ, zero, suc, ◌+◌, ◌<◌, ◌≤◌, Bool, true, false, not, ◌&&◌, ◌||◌, cond, nat_eq, List, [], ◌∷◌, ◌++◌, length, map, filter, get_or, slice_set, Option, Some, None, refl, ap, ap₂, sym, ◌∙◌, subst, arith, sum_by, inl, inr, ⊎_elim, length-set, get_or-set_same, get_or-set_other}
use Rattle.std.specs.Option.{is_some, option_or}
use Rattle.std.specs.List.{find}
use Rattle.std.proofs.lemmas.Bool.{cases_lt, cases_eq}
use Rattle.std.proofs.lemmas.Bool.Decides.{nat_tests}
use Rattle.std.proofs.lemmas.List.{get_or-map, length-map, same_lists}
use Rattle.std.proofs.lemmas.List.Elements.{filter-append}
use Rattle.std.proofs.lemmas.List.Folds.{find-append}
use Rattle.std.proofs.lemmas.List.Sums.{sum_by_push}
use Rattle.dt_base.specs.Ranges.{below}
use Rattle.dt_base.proofs.Ranges.{get_or-below, length-below}

-- equal terms
pub sum_same : (f g : ℕ → ℕ) (n : ℕ) → ((a : ℕ) → a < n → f a ≡ g a) → sum_by f (below n) ≡ sum_by g (below n)
sum_same f g zero h = refl
sum_same f g (suc n) h =
    let rest = sum_same f g n (λ a l. h a (omega arith)) in
    let here = h n (omega arith) in
    let left = sum_by_push f (below n) n in
    let right = sum_by_push g (below n) n in
    omega (arith, rest, here, left, right)

-- one term grows
pub sum_one : (f g : ℕ → ℕ) (n i d : ℕ) → i < n → ((a : ℕ) → a < n → a ≢ i → g a ≡ f a) → g i ≡ f i + d → sum_by g (below n) ≡ sum_by f (below n) + d
sum_one f g zero i d h same e = absurd (omega arith)
sum_one f g (suc n) i d h same e =
    let left = sum_by_push f (below n) n in
    let right = sum_by_push g (below n) n in
    ⊎_elim
    (λ (less : i < n).
    let ne : n ≢ i = omega arith in
    let rest = sum_one f g n i d less (λ a l other. same a (omega arith) other) e in
    let here = same n (omega arith) ne in
    omega (arith, rest, here, left, right))
    (λ (le : n ≤ i).
    let at : i ≡ n = omega arith in
    let rest = sum_same g f n (λ a l. same a (omega arith) (omega arith)) in
    let here : g n ≡ f n + d = subst (λ (k : ℕ). g k ≡ f k + d) at e in
    omega (arith, rest, here, left, right))
    (cases_lt i n)

-- no term
pub sum_zero : (f : ℕ → ℕ) (n : ℕ) → ((a : ℕ) → a < n → f a ≡ 0) → sum_by f (below n) ≡ 0
sum_zero f zero h = refl
sum_zero f (suc n) h =
    let rest = sum_zero f n (λ a l. h a (omega arith)) in
    let here = h n (omega arith) in
    let all = sum_by_push f (below n) n in
    omega (arith, rest, here, all)

-- a sum that is 0 has no term
pub each_zero : (f : ℕ → ℕ) (n a : ℕ) → sum_by f (below n) ≡ 0 → a < n → f a ≡ 0
each_zero f zero a e h = absurd (omega arith)
each_zero f (suc n) a e h =
    let all = sum_by_push f (below n) n in
    ⊎_elim
    (λ (less : a < n). each_zero f n a (omega (arith, all, e)) less)
    (λ (le : n ≤ a). let at : a ≡ n = omega arith in subst (λ (k : ℕ). f k ≡ 0) (sym at) (omega (arith, all, e)))
    (cases_lt a n)

pub zero_sum : (a b : ℕ) → nat_eq (a + b) 0 ≡ (nat_eq a 0 && nat_eq b 0)
zero_sum a b = grind (arith, nat_tests)

some_or : (o : Option ℕ) (b : Bool) (n : ℕ) → not (is_some (option_or o (cond b (Some n) None))) ≡ (not (is_some o) && not b)
some_or None true n = refl
some_or None false n = refl
some_or (Some x) true n = refl
some_or (Some x) false n = refl

-- a sum is 0 exactly where no number passes, where a term is 0 exactly where its number doesn't
pub find_counted : (f : ℕ → ℕ) (p : ℕ → Bool) (n : ℕ) → ((a : ℕ) → nat_eq (f a) 0 ≡ not (p a)) → nat_eq (sum_by f (below n)) 0 ≡ not (is_some (find p (below n)))
find_counted f p zero h = refl
find_counted f p (suc n) h =
    ap (λ (s : ℕ). nat_eq s 0) (sum_by_push f (below n) n) ∙ zero_sum (sum_by f (below n)) (f n)
    ∙ ap₂ (λ (b c : Bool). b && c) (find_counted f p n h) (h n) ∙ sym (some_or (find p (below n)) (p n) n)
    ∙ ap (λ (o : Option ℕ). not (is_some o)) (sym (find-append p (below n) (n ∷ [])))

-- equal tests
pub filter_same : (p q : ℕ → Bool) (n : ℕ) → ((b : ℕ) → b < n → p b ≡ q b) → filter p (below n) ≡ filter q (below n)
filter_same p q zero h = refl
filter_same p q (suc n) h =
    filter-append p (below n) (n ∷ [])
    ∙ ap₂ (λ (xs : List ℕ) (b : Bool). xs ++ cond b (n ∷ []) []) (filter_same p q n (λ b l. h b (omega arith))) (h n (omega arith))
    ∙ sym (filter-append q (below n) (n ∷ []))

pub at_below : {X : Type 0} (f : ℕ → X) (n k : ℕ) (d : X) → k < n → get_or (map f (below n)) k d ≡ f k
at_below f n k d h =
    let there : k < length (below n) = rw (length-below n) h in
    get_or-map f (below n) k 0 d there ∙ ap f (get_or-below n k 0 h)

-- one item changes
pub set_changed : (f g : ℕ → List ℕ) (n i : ℕ) → i < n → ((a : ℕ) → a ≢ i → g a ≡ f a) → slice_set (map f (below n)) i (g i) ≡ map g (below n)
set_changed f g n i h same =
    let all : (h : ℕ → List ℕ) → length (map h (below n)) ≡ n = λ h. length-map (below n) h ∙ length-below n in
    let len = length-set (map f (below n)) i (g i) in
    same_lists (slice_set (map f (below n)) i (g i)) (map g (below n)) (len ∙ all f ∙ sym (all g))
    (λ k d l.
    let near : k < n = omega (arith, l, len, all f) in
    ⊎_elim
    (λ (e : k ≡ i).
    subst (λ (j : ℕ). get_or (slice_set (map f (below n)) i (g i)) j d ≡ get_or (map g (below n)) j d) (sym e)
    (get_or-set_same (map f (below n)) i (g i) d (omega (arith, all f, h)) ∙ sym (at_below g n i d h)))
    (λ (ne : k ≢ i). get_or-set_other (map f (below n)) i k (g i) d ne ∙ at_below f n k d near ∙ sym (same k ne) ∙ sym (at_below g n k d near))
    (cases_eq k i))
