-- From a place among sums of pairs to one of the two below.
use Rattle.std.proofs.Common.{◌≡◌, ℕ, suc, ◌+◌, ◌-◌, ◌*◌, ◌<◌, ◌≤◌, ◌^◌, List, length, take, get_or, refl, ap, sym, ◌∙◌, arith, sum, inl, inr}
use Rattle.std.proofs.lemmas.Bool.{cases_lt}
use Rattle.std.proofs.lemmas.List.{get_or_past}
use Rattle.std.proofs.lemmas.List.Sums.{sum_by_more}
use Rattle.dt_flags.specs.Sums.{IsTree, halved, halved_times, lowest}
use Rattle.dt_flags.proofs.Halves.{before_pair, length-halved, length_times, level_at, pair_at, single_sum, sum_of_times, times_more}

-- a place with something is in the list
pub within_list : (xs : List ℕ) (i b : ℕ) → b < get_or xs i 0 → i < length xs
within_list xs i b h = elim (cases_lt i (length xs)) [
  | inl less ↦ less
  | inr le ↦ let past : get_or xs i 0 ≡ 0 = get_or_past xs i 0 le in absurd (omega (arith, past, h))
]

pub far_within : (xs : List ℕ) (i b : ℕ) → b < get_or (halved xs) i 0 → 2 * i < length xs
far_within xs i b h =
    let pair = pair_at xs i (2 * i) refl in
    let near = within_list (halved xs) i b h in
    let half = length-halved xs in
    omega (arith, near, half)

pub left_kept : (xs : List ℕ) (i b : ℕ) → sum (take (2 * i) xs) + b ≡ sum (take i (halved xs)) + b
left_kept xs i b = let e = before_pair xs i (2 * i) refl in omega (arith, e)

next_is : (xs : List ℕ) (j : ℕ) → get_or xs (j + 1) 0 ≡ get_or xs (suc j) 0
next_is xs j = ap (λ (k : ℕ). get_or xs k 0) (omega arith)

pub right_within : (xs : List ℕ) (i b f : ℕ) → f ≡ get_or xs (2 * i) 0 → f ≤ b → b < get_or (halved xs) i 0 → b - f < get_or xs (2 * i + 1) 0
right_within xs i b f e h w =
    let pair = pair_at xs i (2 * i) refl in
    let next = next_is xs (2 * i) in
    omega (arith, pair, next, e, h, w)

pub right_kept : (xs : List ℕ) (i b f : ℕ) → f ≡ get_or xs (2 * i) 0 → f ≤ b → b < get_or (halved xs) i 0 → sum (take (2 * i + 1) xs) + (b - f) ≡ sum (take i (halved xs)) + b
right_kept xs i b f e h w =
    let before = before_pair xs i (2 * i) refl in
    let more = sum_by_more (λ (n : ℕ). n) xs (2 * i) 0 (far_within xs i b w) in
    omega (arith, before, more, e, h)

-- the spot at the top
pub top_within : (levels : List (List ℕ)) (n k : ℕ) → IsTree levels → n ≡ length levels → k < sum (lowest levels) → k < get_or (halved_times n (lowest levels)) 0 0
top_within levels n k t e h =
    let single : sum (halved_times (length levels) (lowest levels)) ≡ get_or (halved_times (length levels) (lowest levels)) 0 0 = single_sum (halved_times (length levels) (lowest levels)) t.single in
    let all = sum_of_times (length levels) (lowest levels) in
    rw e (omega (arith, single, all, h))

-- a level below one, and the sums of its pairs
module _ (levels : List (List ℕ)) (l : ℕ) (ys : List ℕ) (t : IsTree levels) (h : 0 < l) (most : l ≤ length levels) (read : ys ≡ get_or levels (l - 1) ys) where
  pub level_is : ys ≡ halved_times (l - 1) (lowest levels)
  level_is = read ∙ level_at levels (lowest levels) (l - 1) ys t.halves (omega arith)

  pub halved_is : halved ys ≡ halved_times l (lowest levels)
  halved_is = ap halved level_is ∙ sym (times_more (l - 1) (lowest levels)) ∙ ap (λ (n : ℕ). halved_times n (lowest levels)) (let e : suc (l - 1) ≡ l = omega arith in e)

  pub level_few : length ys < 2 ^ 32
  level_few = let e : length ys ≡ length (halved_times (l - 1) (lowest levels)) = ap length level_is in let n = length_times (l - 1) (lowest levels) in omega (arith, e, n, t.small)
