-- Sums of pairs, when one number changes, and where an amount is reached.
use Rattle.std.proofs.Common.{◌≡◌, ℕ, zero, suc, ◌+◌, ◌-◌, ◌*◌, ◌/◌, ◌<◌, ◌≤◌, ◌^◌, List, [], ◌∷◌, ◌++◌, length, take, replicate, get_or, slice_set, refl, ap, sym, ◌∙◌, subst, arith, sum, length-set, get_or-set_same, length-append}
use Rattle.std.proofs.lemmas.List.Sums.{sum_by-cons, get_or-le-sum_by}
use Rattle.dt_flags.specs.Sums.{AreHalves, CanReplace, IsTree, halved, halved_times, lowest, replaced, replaced_in}

sum-cons : (x : ℕ) (xs : List ℕ) → sum (x ∷ xs) ≡ x + sum xs
sum-cons x xs = sum_by-cons (λ (n : ℕ). n) x xs

take-nil : (n : ℕ) → take {A = ℕ} n [] ≡ []
take-nil zero = refl
take-nil (suc n) = refl

-- a sum of a pair
pub pair_at : (xs : List ℕ) (i j : ℕ) → j ≡ 2 * i → get_or (halved xs) i 0 ≡ get_or xs j 0 + get_or xs (suc j) 0
pair_at [] i j h = omega arith
pair_at (x ∷ []) zero zero h = omega arith
pair_at (x ∷ []) zero (suc j) h = absurd (omega arith)
pair_at (x ∷ []) (suc i) zero h = absurd (omega arith)
pair_at (x ∷ []) (suc i) (suc j) h = omega arith
pair_at (x ∷ y ∷ xs) zero zero h = refl
pair_at (x ∷ y ∷ xs) zero (suc j) h = absurd (omega arith)
pair_at (x ∷ y ∷ xs) (suc i) zero h = absurd (omega arith)
pair_at (x ∷ y ∷ xs) (suc i) (suc zero) h = absurd (omega arith)
pair_at (x ∷ y ∷ xs) (suc i) (suc (suc j)) h = pair_at xs i j (omega arith)

-- what comes before it
pub before_pair : (xs : List ℕ) (i j : ℕ) → j ≡ 2 * i → sum (take i (halved xs)) ≡ sum (take j xs)
before_pair [] i j h = rw (take-nil i, take-nil j) refl
before_pair (x ∷ []) zero zero h = refl
before_pair (x ∷ []) zero (suc j) h = absurd (omega arith)
before_pair (x ∷ []) (suc i) zero h = absurd (omega arith)
before_pair (x ∷ []) (suc i) (suc j) h = rw (take-nil i, take-nil j) refl
before_pair (x ∷ y ∷ xs) zero zero h = refl
before_pair (x ∷ y ∷ xs) zero (suc j) h = absurd (omega arith)
before_pair (x ∷ y ∷ xs) (suc i) zero h = absurd (omega arith)
before_pair (x ∷ y ∷ xs) (suc i) (suc zero) h = absurd (omega arith)
before_pair (x ∷ y ∷ xs) (suc i) (suc (suc j)) h =
    let rest = before_pair xs i j (omega arith) in
    let left = sum-cons (x + y) (take i (halved xs)) in
    let right = sum-cons x (y ∷ take j xs) in
    let inner = sum-cons y (take j xs) in
    omega (arith, rest, left, right, inner)

pub sum-halved : (xs : List ℕ) → sum (halved xs) ≡ sum xs
sum-halved [] = refl
sum-halved (x ∷ []) = refl
sum-halved (x ∷ y ∷ xs) =
    let rest = sum-halved xs in
    let left = sum-cons (x + y) (halved xs) in
    let right = sum-cons x (y ∷ xs) in
    let inner = sum-cons y xs in
    omega (arith, rest, left, right, inner)

pub length-halved : (xs : List ℕ) → length (halved xs) ≡ length xs - length xs / 2
length-halved [] = refl
length-halved (x ∷ []) = refl
length-halved (x ∷ y ∷ xs) = let rest = length-halved xs in omega (arith, rest)

-- One number has another part ----------------------------------------------------------------------------------------

pub halved_replaced : (xs : List ℕ) (i j old new : ℕ) → j ≡ i / 2 → i < length xs → old ≤ get_or xs i 0 → halved (replaced_in xs i old new) ≡ replaced_in (halved xs) j old new
halved_replaced [] i j old new e h p = absurd (omega arith)
halved_replaced (x ∷ []) zero zero old new e h p = refl
halved_replaced (x ∷ []) zero (suc j) old new e h p = absurd (omega arith)
halved_replaced (x ∷ []) (suc i) j old new e h p = absurd (omega arith)
halved_replaced (x ∷ y ∷ xs) zero zero old new e h p = ap (λ (n : ℕ). n ∷ halved xs) (omega arith)
halved_replaced (x ∷ y ∷ xs) zero (suc j) old new e h p = absurd (omega arith)
halved_replaced (x ∷ y ∷ xs) (suc zero) zero old new e h p = ap (λ (n : ℕ). n ∷ halved xs) (omega arith)
halved_replaced (x ∷ y ∷ xs) (suc zero) (suc j) old new e h p = absurd (omega arith)
halved_replaced (x ∷ y ∷ xs) (suc (suc i)) zero old new e h p = absurd (omega arith)
halved_replaced (x ∷ y ∷ xs) (suc (suc i)) (suc j) old new e h p = ap (λ (ns : List ℕ). (x + y) ∷ ns) (halved_replaced xs i j old new (omega arith) (omega arith) p)

part_above : (xs : List ℕ) (i j old : ℕ) → j ≡ i / 2 → i < length xs → old ≤ get_or xs i 0 → old ≤ get_or (halved xs) j 0
part_above [] i j old e h p = absurd (omega arith)
part_above (x ∷ []) zero zero old e h p = p
part_above (x ∷ []) zero (suc j) old e h p = absurd (omega arith)
part_above (x ∷ []) (suc i) j old e h p = absurd (omega arith)
part_above (x ∷ y ∷ xs) zero zero old e h p = omega arith
part_above (x ∷ y ∷ xs) zero (suc j) old e h p = absurd (omega arith)
part_above (x ∷ y ∷ xs) (suc zero) zero old e h p = omega arith
part_above (x ∷ y ∷ xs) (suc zero) (suc j) old e h p = absurd (omega arith)
part_above (x ∷ y ∷ xs) (suc (suc i)) zero old e h p = absurd (omega arith)
part_above (x ∷ y ∷ xs) (suc (suc i)) (suc j) old e h p = part_above xs i j old (omega arith) (omega arith) p

place_above : (xs : List ℕ) (i : ℕ) → i < length xs → i / 2 < length (halved xs)
place_above xs i h = let n = length-halved xs in omega (arith, n)

new_fits : (xs : List ℕ) (i old new : ℕ) → i < length xs → sum (replaced_in xs i old new) < 2 ^ 32 → get_or xs i 0 - old + new < 2 ^ 32
new_fits xs i old new h f =
    let there : i < length (replaced_in xs i old new) = rw (length-set xs i (get_or xs i 0 - old + new)) h in
    let most = get_or-le-sum_by (λ (n : ℕ). n) (replaced_in xs i old new) i 0 there in
    let here = get_or-set_same xs i (get_or xs i 0 - old + new) 0 h in
    omega (arith, most, here, f)

sum_above : (xs : List ℕ) (i old new : ℕ) → i < length xs → old ≤ get_or xs i 0 → sum (replaced_in (halved xs) (i / 2) old new) ≡ sum (replaced_in xs i old new)
sum_above xs i old new h p = ap (λ (ns : List ℕ). sum ns) (sym (halved_replaced xs i (i / 2) old new refl h p)) ∙ sum-halved (replaced_in xs i old new)

pub can_replace : (levels : List (List ℕ)) (xs : List ℕ) (i old new : ℕ) → AreHalves xs levels → i < length xs → old ≤ get_or xs i 0 → sum (replaced_in xs i old new) < 2 ^ 32
    → CanReplace levels i old new
can_replace [] xs i old new a h p f = tt
can_replace (ys ∷ levels) xs i old new a h p f =
    let rest : CanReplace levels (i / 2) old new =
    can_replace levels (halved xs) (i / 2) old new a.1 (place_above xs i h) (part_above xs i (i / 2) old refl h p) (rw (sum_above xs i old new h p) f) in
    let here : (i < length xs) × (old ≤ get_or xs i 0) × (get_or xs i 0 - old + new < 2 ^ 32) × CanReplace levels (i / 2) old new = (h, p, new_fits xs i old new h f, rest) in
    subst (λ (zs : List ℕ). (i < length zs) × (old ≤ get_or zs i 0) × (get_or zs i 0 - old + new < 2 ^ 32) × CanReplace levels (i / 2) old new) (sym a.0) here

pub halves_replaced : (levels : List (List ℕ)) (xs : List ℕ) (i old new : ℕ) → AreHalves xs levels → i < length xs → old ≤ get_or xs i 0
    → AreHalves (replaced_in xs i old new) (replaced levels i old new)
halves_replaced [] xs i old new a h p = tt
halves_replaced (ys ∷ levels) xs i old new a h p =
    let rest = halves_replaced levels (halved xs) (i / 2) old new a.1 (place_above xs i h) (part_above xs i (i / 2) old refl h p) in
    (ap (λ (zs : List ℕ). replaced_in zs i old new) a.0, subst (λ (zs : List ℕ). AreHalves zs (replaced levels (i / 2) old new)) (sym (halved_replaced xs i (i / 2) old new refl h p)) rest)

length-replaced : (levels : List (List ℕ)) (i old new : ℕ) → length (replaced levels i old new) ≡ length levels
length-replaced [] i old new = refl
length-replaced (ys ∷ levels) i old new = ap suc (length-replaced levels (i / 2) old new)

lowest_replaced : (levels : List (List ℕ)) (i old new : ℕ) → i < length (lowest levels) → lowest (replaced levels i old new) ≡ replaced_in (lowest levels) i old new
lowest_replaced [] i old new h = absurd (omega arith)
lowest_replaced (ys ∷ levels) i old new h = refl

length_of_times : (l : ℕ) (xs ys : List ℕ) → length xs ≡ length ys → length (halved_times l xs) ≡ length (halved_times l ys)
length_of_times zero xs ys e = e
length_of_times (suc l) xs ys e =
    length_of_times l (halved xs) (halved ys) (length-halved xs ∙ ap (λ (n : ℕ). n - n / 2) e ∙ sym (length-halved ys))

-- a tree in which a number has another part
pub tree_replaced : (levels : List (List ℕ)) (i old new : ℕ) → IsTree levels → i < length (lowest levels) → old ≤ get_or (lowest levels) i 0 → IsTree (replaced levels i old new)
tree_replaced levels i old new t h p =
    let low = lowest_replaced levels i old new h in
    let same : length (replaced_in (lowest levels) i old new) ≡ length (lowest levels) = length-set (lowest levels) i (get_or (lowest levels) i 0 - old + new) in
    record {
      halves = rw low (halves_replaced levels (lowest levels) i old new t.halves h p);
      single = rw (low, length-replaced levels i old new, length_of_times (length levels) (replaced_in (lowest levels) i old new) (lowest levels) same) t.single;
      small = rw (low, same) t.small;
    }

-- a number in whose place another one comes
pub put_is : (xs : List ℕ) (i new : ℕ) → replaced_in xs i (get_or xs i 0) new ≡ slice_set xs i new
put_is xs i new = ap (λ (n : ℕ). slice_set xs i n) (omega arith)

pub lowest_put : (levels : List (List ℕ)) (i old new : ℕ) → i < length (lowest levels) → old ≡ get_or (lowest levels) i 0 → lowest (replaced levels i old new) ≡ slice_set (lowest levels) i new
lowest_put levels i old new h e = lowest_replaced levels i old new h ∙ ap (λ (o : ℕ). replaced_in (lowest levels) i o new) e ∙ put_is (lowest levels) i new

-- the first level is the lowest
pub first_lowest : (levels : List (List ℕ)) (xs : List ℕ) → 0 < length levels → xs ≡ get_or levels 0 xs → xs ≡ lowest levels
first_lowest [] xs h e = absurd (omega arith)
first_lowest (ys ∷ levels) xs h e = e

-- From the top down ---------------------------------------------------------------------------------------------------

pub times_more : (l : ℕ) (xs : List ℕ) → halved_times (suc l) xs ≡ halved (halved_times l xs)
times_more zero xs = refl
times_more (suc l) xs = times_more l (halved xs)

pub level_at : (levels : List (List ℕ)) (xs : List ℕ) (l : ℕ) (d : List ℕ) → AreHalves xs levels → l < length levels → get_or levels l d ≡ halved_times l xs
level_at [] xs l d a h = absurd (omega arith)
level_at (ys ∷ levels) xs zero d a h = a.0
level_at (ys ∷ levels) xs (suc l) d a h = level_at levels (halved xs) l d a.1 (omega arith)

pub sum_of_times : (l : ℕ) (xs : List ℕ) → sum (halved_times l xs) ≡ sum xs
sum_of_times zero xs = refl
sum_of_times (suc l) xs = sum_of_times l (halved xs) ∙ sum-halved xs

pub length_times : (l : ℕ) (xs : List ℕ) → length (halved_times l xs) ≤ length xs
length_times zero xs = omega arith
length_times (suc l) xs = let rest = length_times l (halved xs) in let n = length-halved xs in omega (arith, rest, n)

pub single_sum : (ys : List ℕ) → length ys ≤ 1 → sum ys ≡ get_or ys 0 0
single_sum [] h = refl
single_sum (y ∷ []) h = sum-cons y [] ∙ omega arith
single_sum (y ∷ z ∷ ys) h = absurd (omega arith)

-- All zeros -----------------------------------------------------------------------------------------------------------

pub halved_zeros : (n : ℕ) → halved (replicate n 0) ≡ replicate (n - n / 2) 0
halved_zeros zero = refl
halved_zeros (suc zero) = refl
halved_zeros (suc (suc n)) =
    let e : suc (n - n / 2) ≡ suc (suc n) - suc (suc n) / 2 = omega arith in
    ap (λ (ns : List ℕ). 0 ∷ ns) (halved_zeros n) ∙ ap (λ (k : ℕ). replicate k 0) e

pub halves_push : (levels : List (List ℕ)) (xs ys : List ℕ) → AreHalves xs levels → ys ≡ halved_times (length levels) xs → AreHalves xs (levels ++ ys ∷ [])
halves_push [] xs ys a e = (e, tt)
halves_push (zs ∷ levels) xs ys a e = (a.0, halves_push levels (halved xs) ys a.1 e)

pub times_push : (levels : List (List ℕ)) (xs ys : List ℕ) → halved_times (length (levels ++ ys ∷ [])) xs ≡ halved (halved_times (length levels) xs)
times_push levels xs ys =
    let n : length (levels ++ ys ∷ []) ≡ suc (length levels) = length-append levels (ys ∷ []) ∙ omega arith in
    ap (λ (l : ℕ). halved_times l xs) n ∙ times_more (length levels) xs

pub lowest_of : (levels : List (List ℕ)) (xs : List ℕ) → AreHalves xs levels → 0 < length levels → lowest levels ≡ xs
lowest_of [] xs a h = absurd (omega arith)
lowest_of (ys ∷ levels) xs a h = a.0
