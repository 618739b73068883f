-- Searches among ascending numbers.
use Rattle.std.proofs.Common.{◌≡◌, ℕ, zero, suc, ◌+◌, ◌-◌, ◌<◌, ◌≤◌, List, length, get_or, refl, arith, Some, None, true, false, inl, inr, ◌==◌, not, subst, sym}
use Rattle.std.specs.Prelude.{nat_le}
use Rattle.std.specs.List.{position, position_or_len}
use Rattle.std.specs.List.Sorted.{IsStrictlyIncreasing, IsNonDecreasingBy}
use Rattle.std.proofs.lemmas.Bool.{cases_lt}
use Rattle.std.proofs.lemmas.Bool.Decides.{nat_tests}
use Rattle.std.proofs.lemmas.List.Sums.{position_or_len_is, prefix_len_passes, prefix_len_stops, prefix_len-le-length}
use Rattle.std.proofs.lemmas.List.Sorted.{IsNonDecreasingBy-from_default}
use Rattle.dt_base.proofs.Firsts.{position-is, position-none}

-- a later number is greater
pub later_lt : (xs : List ℕ) → IsStrictlyIncreasing xs → (i n : ℕ) → i + suc n < length xs → get_or xs i 0 < get_or xs (i + suc n) 0
later_lt xs up i zero h = up i h
later_lt xs up i (suc n) h =
    let before = later_lt xs up i n (omega arith) in
    let next : get_or xs (i + suc n) 0 < get_or xs (i + suc n + 1) 0 = up (i + suc n) (omega arith) in
    let same : i + suc n + 1 ≡ i + suc (suc n) = omega arith in
    let here : get_or xs (i + suc n) 0 < get_or xs (i + suc (suc n)) 0 = subst (λ (k : ℕ). get_or xs (i + suc n) 0 < get_or xs k 0) same next in
    omega arith

pub never_less : (xs : List ℕ) → IsStrictlyIncreasing xs → (i j : ℕ) → i ≤ j → j < length xs → get_or xs i 0 ≤ get_or xs j 0
never_less xs up i j le h = elim (cases_lt i j) [
  | inl less ↦
      (let same : i + suc (j - i - 1) ≡ j = omega arith in
      let later : get_or xs i 0 < get_or xs (i + suc (j - i - 1)) 0 = later_lt xs up i (j - i - 1) (omega arith) in
      let at : get_or xs i 0 < get_or xs j 0 = subst (λ (k : ℕ). get_or xs i 0 < get_or xs k 0) same later in
      omega arith)
  | inr ge ↦
      (let same : i ≡ j = omega arith in
      subst (λ (k : ℕ). get_or xs i 0 ≤ get_or xs k 0) same (let l : get_or xs i 0 ≤ get_or xs i 0 = omega arith in l))
]

pub rising : (xs : List ℕ) → IsStrictlyIncreasing xs → IsNonDecreasingBy (λ (x : ℕ). x) xs
rising xs up = IsNonDecreasingBy-from_default (λ x. x) xs 0 (never_less xs up)

-- the first number that is at least x
pub least_is : (xs : List ℕ) (x k : ℕ) → k ≤ length xs → ((i : ℕ) → i < k → get_or xs i 0 < x) → (k < length xs → x ≤ get_or xs k 0)
    → position_or_len (λ y. nat_le x y) xs ≡ k
least_is xs x k h low high =
    position_or_len_is (λ y. nat_le x y) xs k 0 h
    (λ i lt. let l = low i lt in grind (arith, nat_tests))
    (λ lt. let l = high lt in grind (arith, nat_tests))

-- x is where the first number is that is at least x
pub found_at : (xs : List ℕ) (x k : ℕ) → k < length xs → ((i : ℕ) → i < k → get_or xs i 0 < x) → get_or xs k 0 ≡ x → position (λ y. y == x) xs ≡ Some k
found_at xs x k h low here =
    position-is (λ y. y == x) xs k 0 h (grind (arith, nat_tests)) (λ i lt. let l = low i lt in grind (arith, nat_tests))

-- x is nowhere if the numbers pass it
pub found_nowhere : (xs : List ℕ) (x k : ℕ) → IsStrictlyIncreasing xs → k ≤ length xs → ((i : ℕ) → i < k → get_or xs i 0 < x) → (k < length xs → x < get_or xs k 0)
    → position (λ y. y == x) xs ≡ None
found_nowhere xs x k up h low high =
    position-none (λ y. y == x) xs 0 (λ i lt. apart i lt)
  where
    apart : (i : ℕ) → i < length xs → (get_or xs i 0 == x) ≡ false
    apart i lt = elim (cases_lt i k) [
      | inl less ↦ (let l = low i less in grind (arith, nat_tests))
      | inr ge ↦ (let l = high (omega arith) in let m = never_less xs up k i (omega arith) lt in grind (arith, nat_tests))
    ]

not_flips : (b c : _) → not b ≡ c → b ≡ not c
not_flips true true h = sym h
not_flips true false h = refl
not_flips false true h = refl
not_flips false false h = sym h

-- the numbers before the first that is at least x are less
pub less_before : (xs : List ℕ) (x i : ℕ) → i < position_or_len (λ y. nat_le x y) xs → get_or xs i 0 < x
less_before xs x i h =
    let b : nat_le x (get_or xs i 0) ≡ false = not_flips _ true (prefix_len_passes (λ y. not (nat_le x y)) xs i 0 h) in
    grind (arith, nat_tests)

pub not_less_at : (xs : List ℕ) (x k : ℕ) → k ≡ position_or_len (λ y. nat_le x y) xs → k < length xs → x ≤ get_or xs k 0
not_less_at xs x k e h =
    let at : x ≤ get_or xs (position_or_len (λ y. nat_le x y) xs) 0 =
    (let b : nat_le x (get_or xs (position_or_len (λ y. nat_le x y) xs) 0) ≡ true = not_flips _ false (prefix_len_stops (λ y. not (nat_le x y)) xs 0 (omega (arith, e, h))) in
    grind (arith, nat_tests)) in
    subst (λ (j : ℕ). x ≤ get_or xs j 0) (sym e) at

-- x is at the first number that is at least x, or nowhere
pub place_found : (xs : List ℕ) (x k : ℕ) → k ≡ position_or_len (λ y. nat_le x y) xs → k < length xs → get_or xs k 0 ≡ x → Some k ≡ position (λ y. y == x) xs
place_found xs x k e h here = sym (found_at xs x k h (λ i lt. less_before xs x i (omega (arith, e, lt))) here)

pub place_missing : (xs : List ℕ) (x k : ℕ) → IsStrictlyIncreasing xs → k ≡ position_or_len (λ y. nat_le x y) xs → (k < length xs → get_or xs k 0 ≡ x → ⊥) → None ≡ position (λ y. y == x) xs
place_missing xs x k up e apart =
    sym (found_nowhere xs x k up (omega (arith, e, prefix_len-le-length (λ y. not (nat_le x y)) xs)) (λ i lt. less_before xs x i (omega (arith, e, lt)))
    (λ h. greater (get_or xs k 0) x (not_less_at xs x k e h) (apart h)))
  where
    greater : (a b : ℕ) → b ≤ a → (a ≡ b → ⊥) → b < a
    greater a b le ne = omega (arith, le, ne)
