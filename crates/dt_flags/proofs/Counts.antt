-- Flags, counted.
use Rattle.std.proofs.Common.{◌≡◌, ℕ, zero, suc, ◌+◌, ◌-◌, ◌<◌, ◌≤◌, Bool, true, false, List, [], ◌∷◌, ◌++◌, length, map, take, filter, get_or, refl, ap, sym, ◌∙◌, arith, sum, cond, inl, inr, slice_set, replicate, ◌^◌, length-set, length-append}
use Rattle.std.proofs.Math.Seq.{get_or-append_seam, take-length}
use Rattle.std.proofs.lemmas.Bool.{cases_lt}
use Rattle.std.proofs.lemmas.List.{get_or_append_left, length-map, length-replicate, get_or-map, map-set}
use Rattle.std.proofs.lemmas.List.Elements.{filter-append}
use Rattle.std.proofs.lemmas.List.Sums.{sum_by-cons, sum_by_more, sum_by-set}
use Rattle.std.proofs.lemmas.List.Folds.{sum_by-replicate}
use Rattle.dt_base.specs.Ranges.{below}
use Rattle.dt_flags.specs.Flags.{AreCounted, is_set, one_if, set_ones}

filter_more : (p : ℕ → Bool) (n : ℕ) → filter p (below (suc n)) ≡ filter p (below n) ++ cond (p n) (n ∷ []) []
filter_more p n = filter-append p (below n) (n ∷ [])

length_more : (p : ℕ → Bool) (n : ℕ) (b : Bool) → p n ≡ b → length (filter p (below (suc n))) ≡ length (filter p (below n)) + one_if b
length_more p n true e = ap length (filter_more p n ∙ ap (λ (c : Bool). filter p (below n) ++ cond c (n ∷ []) []) e) ∙ length-append (filter p (below n)) (n ∷ [])
length_more p n false e = ap length (filter_more p n ∙ ap (λ (c : Bool). filter p (below n) ++ cond c (n ∷ []) []) e) ∙ length-append (filter p (below n)) []

-- how many of the first n are set
pub ones_below : (flags : List Bool) (n : ℕ) → n ≤ length flags → sum (take n (map one_if flags)) ≡ length (filter (is_set flags) (below n))
ones_below flags zero h = refl
ones_below flags (suc n) h =
    let rest = ones_below flags n (omega arith) in
    let there : n < length (map one_if flags) = rw (length-map flags one_if) (omega arith) in
    let more = sum_by_more (λ (k : ℕ). k) (map one_if flags) n 0 there in
    let here = get_or-map one_if flags n false 0 (omega arith) in
    let count = length_more (is_set flags) n (get_or flags n false) refl in
    let step : suc n ≡ n + 1 = omega arith in
    let one : sum (take (suc n) (map one_if flags)) ≡ sum (take (n + 1) (map one_if flags)) = ap (λ (k : ℕ). sum (take k (map one_if flags))) step in
    omega (arith, rest, more, here, count, one)

pub count_is : (flags : List Bool) → sum (map one_if flags) ≡ length (set_ones flags)
count_is flags =
    let all : take (length flags) (map one_if flags) ≡ map one_if flags = ap (λ (n : ℕ). take n (map one_if flags)) (sym (length-map flags one_if)) ∙ take-length (map one_if flags) in
    ap (λ (ns : List ℕ). sum ns) (sym all) ∙ ones_below flags (length flags) (omega arith)

few_below : (p : ℕ → Bool) (i n : ℕ) → i ≤ n → length (filter p (below i)) ≤ length (filter p (below n))
few_below p zero zero h = omega arith
few_below p (suc i) zero h = absurd (omega arith)
few_below p i (suc n) h = elim (cases_lt i (suc n)) [
  | inl less ↦ let rest = few_below p i n (omega arith) in let more = length_more p n (p n) refl in omega (arith, rest, more)
  | inr le ↦ let e : i ≡ suc n = omega arith in rw e (omega arith)
]

found_last : (p : ℕ → Bool) (n k : ℕ) → p n ≡ true → length (filter p (below n)) ≡ k → get_or (filter p (below (suc n))) k 0 ≡ n
found_last p n k e c =
    ap (λ (xs : List ℕ). get_or xs k 0) (filter_more p n ∙ ap (λ (b : Bool). filter p (below n) ++ cond b (n ∷ []) []) e)
    ∙ ap (λ (j : ℕ). get_or (filter p (below n) ++ n ∷ []) j 0) (sym c) ∙ get_or-append_seam (filter p (below n)) n [] 0

-- the number that comes behind k that pass
pub found_below : (p : ℕ → Bool) (n i k : ℕ) → i < n → p i ≡ true → length (filter p (below i)) ≡ k → get_or (filter p (below n)) k 0 ≡ i
found_below p zero i k h e c = absurd (omega arith)
found_below p (suc n) i k h e c = elim (cases_lt i n) [
  | inl less ↦
      let more = length_more p i true e in
      let few = few_below p (suc i) n (omega arith) in
      let there : k < length (filter p (below n)) = omega (arith, more, few, c) in
      ap (λ (xs : List ℕ). get_or xs k 0) (filter_more p n) ∙ get_or_append_left (filter p (below n)) (cond (p n) (n ∷ []) []) 0 k there ∙ found_below p n i k less e c
  | inr le ↦
      let same : n ≡ i = omega arith in
      ap (λ (m : ℕ). get_or (filter p (below (suc m))) k 0) same ∙ found_last p i k e c
]

one_is : (b : Bool) → 0 < one_if b → b ≡ true
one_is true h = refl
one_is false h = absurd (omega arith)

one_most : (b : Bool) → one_if b ≤ 1
one_most true = omega arith
one_most false = omega arith

-- the flag up to which k are set, itself set, is the k-th of those
pub found_flag : (flags : List Bool) (ones : List ℕ) (i k : ℕ) → ones ≡ map one_if flags → i < length ones → sum (take i ones) ≤ k → k < sum (take i ones) + get_or ones i 0 → i ≡ get_or (set_ones flags) k 0
found_flag flags ones i k e h before after =
    let same : length ones ≡ length flags = ap length e ∙ length-map flags one_if in
    let here : get_or ones i 0 ≡ one_if (get_or flags i false) = ap (λ (xs : List ℕ). get_or xs i 0) e ∙ get_or-map one_if flags i false 0 (omega (arith, same, h)) in
    let most = one_most (get_or flags i false) in
    let set : get_or flags i false ≡ true = one_is (get_or flags i false) (omega (arith, here, before, after)) in
    let taken : sum (take i ones) ≡ sum (take i (map one_if flags)) = ap (λ (xs : List ℕ). sum (take i xs)) e in
    let count = ones_below flags i (omega (arith, same, h)) in
    sym (found_below (is_set flags) (length flags) i k (omega (arith, same, h)) set (omega (arith, taken, count, here, most, before, after)))

-- a flag that changes
pub sum_set : (flags : List Bool) (i : ℕ) (b : Bool) → i < length flags → sum (map one_if (slice_set flags i b)) + one_if (get_or flags i false) ≡ sum (map one_if flags) + one_if b
sum_set flags i b h =
    let there : i < length (map one_if flags) = rw (length-map flags one_if) h in
    let moved = sum_by-set (λ (k : ℕ). k) (map one_if flags) i (one_if b) 0 there in
    let here = get_or-map one_if flags i false 0 h in
    let same : sum (map one_if (slice_set flags i b)) ≡ sum (slice_set (map one_if flags) i (one_if b)) = ap (λ (xs : List ℕ). sum xs) (map-set one_if flags i b) in
    omega (arith, moved, here, same)

few_set : (flags : List Bool) → sum (map one_if flags) ≤ length flags
few_set [] = omega arith
few_set (b ∷ flags) =
    let rest = few_set flags in
    let all = sum_by-cons (λ (k : ℕ). k) (one_if b) (map one_if flags) in
    let most = one_most b in
    omega (arith, rest, all, most)

-- what is kept, when a flag is set that was not
module _ (flags : List Bool) (ones : List ℕ) (count i : ℕ) (a : AreCounted flags ones count) (h : i < length flags) where
  same_sum : (b : Bool) → sum (slice_set ones i (one_if b)) ≡ sum (map one_if (slice_set flags i b))
  same_sum b = ap (λ (ns : List ℕ). sum (slice_set ns i (one_if b))) a.ones ∙ ap (λ (ns : List ℕ). sum ns) (sym (map-set one_if flags i b))

  changed : (b : Bool) (n : ℕ) → n + one_if (get_or flags i false) ≡ count + one_if b → AreCounted (slice_set flags i b) (slice_set ones i (one_if b)) n
  changed b n e =
      let moved = sum_set flags i b h in
      let len = length-set flags i b in
      record {
        small = omega (arith, len, a.small);
        ones = ap (λ (ns : List ℕ). slice_set ns i (one_if b)) a.ones ∙ sym (map-set one_if flags i b);
        sum_is = omega (arith, moved, e, a.sum_is);
      }

  few_after : (b : Bool) → sum (slice_set ones i (one_if b)) < 2 ^ 32
  few_after b =
      let same = same_sum b in
      let few = few_set (slice_set flags i b) in
      let len = length-set flags i b in
      omega (arith, same, few, len, a.small)

  module _ (was : get_or flags i false ≡ false) where
    pub set_counted : AreCounted (slice_set flags i true) (slice_set ones i 1) (count + 1)
    set_counted = let z : one_if (get_or flags i false) ≡ 0 = ap one_if was in changed true (count + 1) (omega (arith, z))

    pub set_few : count + 1 < 2 ^ 32
    set_few =
        let z : one_if (get_or flags i false) ≡ 0 = ap one_if was in
        let moved = sum_set flags i true h in
        let few = few_set (slice_set flags i true) in
        let len = length-set flags i true in
        omega (arith, moved, few, len, z, a.sum_is, a.small)

    pub set_fits : sum (slice_set ones i 1) < 2 ^ 32
    set_fits = few_after true

  module _ (was : get_or flags i false ≡ true) where
    pub clear_some : 1 ≤ count
    clear_some =
        let z : one_if (get_or flags i false) ≡ 1 = ap one_if was in
        let moved = sum_set flags i false h in
        omega (arith, moved, z, a.sum_is)

    pub clear_counted : AreCounted (slice_set flags i false) (slice_set ones i 0) (count - 1)
    clear_counted = let z : one_if (get_or flags i false) ≡ 1 = ap one_if was in changed false (count - 1) (omega (arith, z, clear_some))

    pub clear_fits : sum (slice_set ones i 0) < 2 ^ 32
    clear_fits = few_after false

ones_of_none : (n : ℕ) → map one_if (replicate n false) ≡ replicate n 0
ones_of_none zero = refl
ones_of_none (suc n) = ap (λ (ns : List ℕ). 0 ∷ ns) (ones_of_none n)

-- no flag is set
pub none_counted : (n : ℕ) (flags : List Bool) (ones : List ℕ) → n < 2 ^ 32 → flags ≡ replicate n false → ones ≡ replicate n 0 → AreCounted flags ones 0
none_counted n flags ones f e o =
    let zeros : map one_if (replicate n false) ≡ replicate n 0 = ones_of_none n in
    let len : length (replicate n false) ≡ n = length-replicate {A = Bool} n false in
    rw (e, o) (record {
      small = omega (arith, len, f);
      ones = sym zeros;
      sum_is = sym (ap (λ (ns : List ℕ). sum ns) zeros ∙ sum_by-replicate (λ (k : ℕ). k) n 0 ∙ omega arith);
    })
