-- Ascending lists as sets: which numbers they have, and that these determine the list.
use Rattle.std.proofs.Common.{◌≡◌, ℕ, zero, suc, ◌+◌, ◌-◌, ◌<◌, ◌≤◌, List, [], ◌∷◌, ◌++◌, length, get_or, refl, ap, ◌∙◌, sym, arith, Bool, true, false, cond, ◌&&◌, ◌||◌, nat_le, nat_lt, inl, inr}
use Rattle.std.specs.List.{filter, list_any}
use Rattle.std.specs.List.Sorted.{IsStrictlyIncreasing}
use Rattle.std.proofs.lemmas.Bool.Decides.{nat_tests, leb_tells, eqb_tells}
use Rattle.dt_runs.specs.Sets.{contains}
use Rattle.dt_runs.specs.Intervals.{ascending, range}

pub contains-append : (xs ys : List ℕ) (x : ℕ) → contains (xs ++ ys) x ≡ (contains xs x || contains ys x)
contains-append [] ys x = refl
contains-append (y ∷ xs) ys x = grind (arith, contains-append xs ys x)

pub contains-ascending : (a n x : ℕ) → contains (ascending a n) x ≡ (nat_le a x && nat_lt x (a + n))
contains-ascending a zero x = grind (arith, nat_tests)
contains-ascending a (suc n) x = grind (arith, nat_tests, contains-ascending (suc a) n x)

pub contains-range : (a b x : ℕ) → contains (range a b) x ≡ (nat_le a x && nat_lt x b)
contains-range a b x = grind (arith, nat_tests, contains-ascending a (b - a) x)

pub contains-filter : (p : ℕ → Bool) (xs : List ℕ) (x : ℕ) → contains (filter p xs) x ≡ (contains xs x && p x)
contains-filter p [] x = refl
contains-filter p (y ∷ ys) x = grind (arith, nat_tests, contains-filter p ys x)

-- the list ascends from the low number on
abbrev pub Ascends : ℕ → List ℕ → Type 0
Ascends low [] = Unit {0}
Ascends low (x ∷ xs) = (low ≤ x) × Ascends (suc x) xs

pub Ascends-lower : (low high : ℕ) (xs : List ℕ) → low ≤ high → Ascends high xs → Ascends low xs
Ascends-lower low high [] le a = tt
Ascends-lower low high (x ∷ xs) le a = (omega arith, a.1)

pub Ascends-ascending : (a n : ℕ) (xs : List ℕ) → Ascends (a + n) xs → Ascends a (ascending a n ++ xs)
Ascends-ascending a zero xs h = Ascends-lower a (a + 0) xs (omega arith) h
Ascends-ascending a (suc n) xs h = (omega arith, Ascends-ascending (suc a) n xs (Ascends-lower (suc a + n) (a + suc n) xs (omega arith) h))

pub Ascends-filter : (p : ℕ → Bool) (low : ℕ) (xs : List ℕ) → Ascends low xs → Ascends low (filter p xs)
Ascends-filter p low [] a = tt
Ascends-filter p low (x ∷ xs) a =
    let rest = Ascends-filter p (suc x) xs a.1 in
    elim (p x) as (λ b. Ascends low (cond b (x ∷ filter p xs) (filter p xs))) [
      | true ↦ (a.0, rest)
      | false ↦ Ascends-lower low (suc x) (filter p xs) (omega arith) rest
    ]

pub strictly_increasing_from_ascends : (low : ℕ) (xs : List ℕ) → Ascends low xs → IsStrictlyIncreasing xs
strictly_increasing_from_ascends low [] a k h = absurd (omega arith)
strictly_increasing_from_ascends low (x ∷ []) a k h = absurd (omega arith)
strictly_increasing_from_ascends low (x ∷ y ∷ ys) a zero h = a.1.0
strictly_increasing_from_ascends low (x ∷ y ∷ ys) a (suc k) h =
    let next : suc k + 1 ≡ suc (k + 1) = omega arith in
    rw next (strictly_increasing_from_ascends (suc x) (y ∷ ys) a.1 k (omega arith))

pub ascends_from_strictly_increasing : (low : ℕ) (xs : List ℕ) → (0 < length xs → low ≤ get_or xs 0 0) → IsStrictlyIncreasing xs → Ascends low xs
ascends_from_strictly_increasing low [] first up = tt
ascends_from_strictly_increasing low (x ∷ []) first up = (first (omega arith), tt)
ascends_from_strictly_increasing low (x ∷ y ∷ ys) first up =
    let next : x < y = up 0 (omega arith) in
    (first (omega arith), ascends_from_strictly_increasing (suc x) (y ∷ ys) (λ h. omega arith) (λ k h. let next : suc k + 1 ≡ suc (k + 1) = omega arith in rw next at (up (suc k) (omega arith))))

-- a number below where the list begins is not in it
pub contains-before : (low : ℕ) (xs : List ℕ) (x : ℕ) → Ascends low xs → x < low → contains xs x ≡ false
contains-before low [] x a lt = refl
contains-before low (y ∷ ys) x a lt = grind (arith, nat_tests, contains-before (suc y) ys x a.1 (omega arith))

contains-first : (x : ℕ) (xs : List ℕ) → contains (x ∷ xs) x ≡ true
contains-first x xs = grind (arith, nat_tests)

-- a first number is no smaller than another list's, where that list has all its numbers
first_le : (low x y : ℕ) (xs ys : List ℕ) → Ascends low (y ∷ ys) → contains (x ∷ xs) x ≡ contains (y ∷ ys) x → y ≤ x
first_le low x y xs ys a same = grind (arith, nat_tests, contains-before y (y ∷ ys) x (omega arith, a.1), contains-first x xs)

contains-rest : (x y : ℕ) (xs : List ℕ) → x < y → contains (x ∷ xs) y ≡ contains xs y
contains-rest x y xs lt = grind (arith, nat_tests)

-- where two lists have the same numbers, so do their rests
contains-rests : (x y : ℕ) (xs ys : List ℕ) → Ascends (suc x) xs → Ascends (suc y) ys → x ≡ y → ((z : ℕ) → contains (x ∷ xs) z ≡ contains (y ∷ ys) z)
    → (z : ℕ) → contains xs z ≡ contains ys z
contains-rests x y xs ys a b e same z = elim (leb_tells z x) [
  | inl h ↦ contains-before (suc x) xs z a (omega arith) ∙ sym (contains-before (suc y) ys z b (omega arith))
  | inr h ↦ sym (contains-rest x z xs (omega arith)) ∙ same z ∙ contains-rest y z ys (omega arith)
]

-- ascending lists that have the same numbers are the same
pub same_by_contains : (low high : ℕ) (xs ys : List ℕ) → Ascends low xs → Ascends high ys → ((x : ℕ) → contains xs x ≡ contains ys x) → xs ≡ ys
same_by_contains low high [] [] a b same = refl
same_by_contains low high [] (y ∷ ys) a b same = let first = contains-first y ys in let other = same y in cc
same_by_contains low high (x ∷ xs) [] a b same = let first = contains-first x xs in let other = same x in cc
same_by_contains low high (x ∷ xs) (y ∷ ys) a b same =
    let above : y ≤ x = first_le high x y xs ys b (same x) in
    let below : x ≤ y = first_le low y x ys xs a (sym (same y)) in
    let firsts : x ≡ y = omega arith in
    let tails : xs ≡ ys = same_by_contains (suc x) (suc y) xs ys a.1 b.1 (contains-rests x y xs ys a.1 b.1 firsts same) in
    ap (λ z. z ∷ xs) firsts ∙ ap (λ zs. y ∷ zs) tails

-- an ascending list with the numbers of another that pass a test is that list filtered
pub filter_by_contains : (p : ℕ → Bool) (xs ys : List ℕ) → Ascends 0 ys → IsStrictlyIncreasing xs → ((x : ℕ) → contains xs x ≡ (contains ys x && p x)) → xs ≡ filter p ys
filter_by_contains p xs ys a up members =
    same_by_contains 0 0 xs (filter p ys) (ascends_from_strictly_increasing 0 xs (λ h. omega arith) up) (Ascends-filter p 0 ys a)
    (λ x. members x ∙ sym (contains-filter p ys x))

pub list_any-some : (p : ℕ → Bool) (xs : List ℕ) (x : ℕ) → contains xs x ≡ true → p x ≡ true → list_any p xs ≡ true
list_any-some p [] x h k = cc
list_any-some p (y ∷ ys) x h k = elim (eqb_tells y x) [
  | inl e ↦ rw (e.1, k) refl
  | inr e ↦ grind (arith, e.0, h, list_any-some p ys x)
]

pub list_any-none : (p : ℕ → Bool) (xs : List ℕ) → ((x : ℕ) → (contains xs x && p x) ≡ false) → list_any p xs ≡ false
list_any-none p [] none = refl
list_any-none p (y ∷ ys) none =
    let here : p y ≡ false = rw (contains-first y ys) at (none y) in
    let rest : list_any p ys ≡ false = list_any-none p ys (λ x. none_behind y ys x (p x) (none x)) in
    rw (here, rest) refl
  where
    none_behind : (y : ℕ) (ys : List ℕ) (x : ℕ) (b : Bool) → (contains (y ∷ ys) x && b) ≡ false → (contains ys x && b) ≡ false
    none_behind y ys x b h = grind (arith)
