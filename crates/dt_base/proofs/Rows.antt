-- Row-major numbers, computed from the front.
use Rattle.std.proofs.Common.{◌≡◌, ℕ, zero, suc, ◌+◌, ◌*◌, ◌<◌, ◌≤◌, ◌≢◌, List, [], ◌∷◌, ◌++◌, length, take, drop, get_or, refl, ap, sym, ◌∙◌, arith, Option, Some, None, option_map, nat_lt, Bool, true, false, cond, add-one}
use Rattle.std.proofs.lemmas.Bool.{lt-ltb, le-ltb}
use Rattle.std.proofs.Math.Seq.{drop-cons}
use Rattle.std.proofs.lemmas.Nat.{mul-le, row_fits}
use Rattle.std.specs.List.{AllByRecursion}
use Rattle.std.proofs.lemmas.Bool.Decides.{nat_tests}
use Rattle.std.proofs.lemmas.List.{take_more, drop_all}
use Rattle.dt_base.specs.Rows.{product, row_major}

-- the number whose front coordinates have the number n
abbrev pub with_front : ℕ → List ℕ → List ℕ → Option ℕ
with_front n ns xs = option_map (λ k. n * product ns + k) (row_major ns xs)

regroup : (n m x p k : ℕ) → n * (m * p) + (x * p + k) ≡ (n * m + x) * p + k
regroup n m x p k = omega arith

shifted : (n m x : ℕ) (ns : List ℕ) (r : Option ℕ) → option_map (λ k. n * (m * product ns) + k) (option_map (λ k. x * product ns + k) r) ≡ option_map (λ k. (n * m + x) * product ns + k) r
shifted n m x ns None = refl
shifted n m x ns (Some k) = ap Some (regroup n m x (product ns) k)

-- a coordinate in range joins the front
pub with_front-inside : (n m x : ℕ) (ns xs : List ℕ) → x < m → with_front n (m ∷ ns) (x ∷ xs) ≡ with_front (n * m + x) ns xs
with_front-inside n m x ns xs h = rw (lt-ltb x m h) (shifted n m x ns (row_major ns xs))

-- a coordinate out of range has no number
pub with_front-outside : (n m x : ℕ) (ns xs : List ℕ) → m ≤ x → with_front n (m ∷ ns) (x ∷ xs) ≡ None
with_front-outside n m x ns xs h = rw (le-ltb x m h) refl

-- coordinates of another count have no number
pub row_major-count : (ns xs : List ℕ) → length ns ≢ length xs → row_major ns xs ≡ None
row_major-count [] [] h = absurd (h refl)
row_major-count [] (x ∷ xs) h = refl
row_major-count (n ∷ ns) [] h = refl
row_major-count (n ∷ ns) (x ∷ xs) h = grind (arith, nat_tests, row_major-count ns xs)

-- the product of two lists, one after the other
pub product-append : (ns ms : List ℕ) → product (ns ++ ms) ≡ product ns * product ms
product-append [] ms = omega arith
product-append (n ∷ ns) ms = rw (product-append ns ms) (omega arith)

-- one more extent
pub product_more : (ns : List ℕ) (i : ℕ) → i < length ns → product (take (i + 1) ns) ≡ product (take i ns) * get_or ns i 0
product_more ns i h = rw (take_more ns i 0 h, product-append (take i ns) (get_or ns i 0 ∷ [])) (omega arith)

-- extents that are not 0 have an index
pub product-positive : (ns : List ℕ) → AllByRecursion (λ n. 1 ≤ n) ns → 1 ≤ product ns
product-positive [] h = omega arith
product-positive (n ∷ ns) h = omega (arith, mul-le 1 1 n (product ns) h.0 (product-positive ns h.1))

-- the first extents have no greater product
pub product-take-le : (ns : List ℕ) (i : ℕ) → AllByRecursion (λ n. 1 ≤ n) ns → product (take i ns) ≤ product ns
product-take-le [] zero h = omega arith
product-take-le [] (suc i) h = omega arith
product-take-le (n ∷ ns) zero h = product-positive (n ∷ ns) h
product-take-le (n ∷ ns) (suc i) h = mul-le n (product (take i ns)) n (product ns) (omega arith) (product-take-le ns i h.1)

-- with one more coordinate the number stays below the product of the extents so far, and of all
pub more_fits : (ns : List ℕ) (i n x : ℕ) → AllByRecursion (λ n. 1 ≤ n) ns → i < length ns → n < product (take i ns) → x < get_or ns i 0
    → (n * get_or ns i 0 + x < product (take (i + 1) ns)) × (n * get_or ns i 0 + x < product ns)
more_fits ns i n x h k lt below =
    let e : product (take (i + 1) ns) ≡ product (take i ns) * get_or ns i 0 = product_more ns i k in
    let le : product (take (i + 1) ns) ≤ product ns = product-take-le ns (i + 1) h in
    let r : n * get_or ns i 0 + get_or ns i 0 ≤ product (take i ns) * get_or ns i 0 = row_fits n (get_or ns i 0) (product (take i ns)) (get_or ns i 0) lt (omega arith) in
    (omega arith, omega arith)

opened : (ns xs : List ℕ) (i n : ℕ) → i < length ns → i < length xs
    → with_front n (drop i ns) (drop i xs) ≡ with_front n (get_or ns i 0 ∷ drop (suc i) ns) (get_or xs i 0 ∷ drop (suc i) xs)
opened ns xs i n h k = ap (λ (a : List ℕ). with_front n a (drop i xs)) (drop-cons ns i 0 h) ∙ ap (λ (b : List ℕ). with_front n (get_or ns i 0 ∷ drop (suc i) ns) b) (drop-cons xs i 0 k)

-- a loop's step where the next coordinate is in range
pub in_range_step : (ns xs : List ℕ) (i n : ℕ) (r : Option ℕ) → i < length ns → i < length xs → get_or xs i 0 < get_or ns i 0
    → with_front n (drop i ns) (drop i xs) ≡ r → with_front (n * get_or ns i 0 + get_or xs i 0) (drop (i + 1) ns) (drop (i + 1) xs) ≡ r
in_range_step ns xs i n r h k lt e = rw add-one (sym (with_front-inside n (get_or ns i 0) (get_or xs i 0) (drop (suc i) ns) (drop (suc i) xs) lt) ∙ sym (opened ns xs i n h k) ∙ e)

-- a loop's end where the next coordinate is out of range
pub out_of_range : (ns xs : List ℕ) (i n : ℕ) (r : Option ℕ) → i < length ns → i < length xs → get_or ns i 0 ≤ get_or xs i 0
    → with_front n (drop i ns) (drop i xs) ≡ r → r ≡ None
out_of_range ns xs i n r h k le e = sym e ∙ opened ns xs i n h k ∙ with_front-outside n (get_or ns i 0) (get_or xs i 0) (drop (suc i) ns) (drop (suc i) xs) le

-- a loop's end behind all coordinates
pub all_in_range : (ns xs : List ℕ) (i n : ℕ) → length ns ≡ length xs → length xs ≤ i → with_front n (drop i ns) (drop i xs) ≡ Some n
all_in_range ns xs i n e h = rw (drop_all i ns (omega arith), drop_all i xs h) (ap Some (omega arith))

below_row : (x n k p : ℕ) → x < n → k < p → x * p + k < n * p
below_row x n k p h l = omega (arith, row_fits x p n p h (omega arith))

shifted_below : (x n p : ℕ) (r : Option ℕ) → x < n → ((k : ℕ) → r ≡ Some k → k < p) → (k : ℕ) → option_map (λ j. x * p + j) r ≡ Some k → k < n * p
shifted_below x n p None h below k e = cc
shifted_below x n p (Some j) h below k e = (let same : x * p + j ≡ k = cc in rw (← same) (below_row x n j p h (below j refl)))

in_row : (n x k : ℕ) (ns : List ℕ) (r : Option ℕ) (b : Bool) → nat_lt x n ≡ b → ((j : ℕ) → r ≡ Some j → j < product ns)
    → cond b (option_map (λ j. x * product ns + j) r) None ≡ Some k → k < n * product ns
in_row n x k ns r true t below h = shifted_below x n (product ns) r (grind (arith, nat_tests)) below k h
in_row n x k ns r false t below h = cc

-- a row-major number is below the product of the extents
pub row_major-below : (ns xs : List ℕ) (k : ℕ) → row_major ns xs ≡ Some k → k < product ns
row_major-below [] [] k e = (let zero_is : 0 ≡ k = cc in omega arith)
row_major-below [] (x ∷ xs) k e = cc
row_major-below (n ∷ ns) [] k e = cc
row_major-below (n ∷ ns) (x ∷ xs) k e = in_row n x k ns (row_major ns xs) (nat_lt x n) refl (λ j q. row_major-below ns xs j q) e
