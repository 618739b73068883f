-- The laws of sums over the numbers below a bound.
use Rattle.std.proofs.Common.{◌≡◌, ℕ, zero, suc, ◌+◌, ◌*◌, ◌-◌, ◌<◌, ◌≤◌, ◌%◌, ◌/◌, refl, sym, ap, ◌∙◌, arith}
use Rattle.std.specs.Prelude.{if◌then◌else◌, nat_lt}
use Rattle.std.proofs.lemmas.Bool.{lt-ltb, le-ltb}
use Rattle.std.proofs.lemmas.Nat.{div-mul-add, mod-mul-add}
use Rattle.std.proofs.Math.Nat.{add-mul-mod_self_left, add-mod-mod, mod-eq_of_lt}
use Rattle.dt_nest.specs.Sums.{sum_below}

-- equal below the bound
pub sum_below_same : (n : ℕ) (f g : ℕ → ℕ) → ((i : ℕ) → i < n → f i ≡ g i) → sum_below n f ≡ sum_below n g
unfolding sum_below
sum_below_same zero f g h = refl
sum_below_same (suc n) f g h =
    let a = sum_below_same n f g (λ i l. h i (omega arith)) in
    let b = h n (omega arith) in omega (arith, a, b)

pub sum_below_zero : (n : ℕ) (f : ℕ → ℕ) → ((i : ℕ) → i < n → f i ≡ 0) → sum_below n f ≡ 0
unfolding sum_below
sum_below_zero zero f h = refl
sum_below_zero (suc n) f h =
    let a = sum_below_zero n f (λ i l. h i (omega arith)) in
    let b = h n (omega arith) in omega (arith, a, b)

pub sum_below-add : (n : ℕ) (f g : ℕ → ℕ) → sum_below n (λ i. f i + g i) ≡ sum_below n f + sum_below n g
unfolding sum_below
sum_below-add zero f g = refl
sum_below-add (suc n) f g = omega (arith, sum_below-add n f g)

pub sum_below-mul : (n : ℕ) (k : ℕ) (f : ℕ → ℕ) → sum_below n (λ i. k * f i) ≡ k * sum_below n f
unfolding sum_below
sum_below-mul zero k f = omega arith
sum_below-mul (suc n) k f = omega (arith, sum_below-mul n k f)

-- the order of two sums is free
pub sum_below_swap : (n m : ℕ) (f : ℕ → ℕ → ℕ) → sum_below n (λ i. sum_below m (f i)) ≡ sum_below m (λ j. sum_below n (λ i. f i j))
unfolding sum_below
sum_below_swap zero m f = sym (sum_below_zero m (λ j. 0) (λ j l. refl))
sum_below_swap (suc n) m f =
    ap (λ a. a + sum_below m (f n)) (sum_below_swap n m f) ∙ sym (sum_below-add m (λ j. sum_below n (λ i. f i j)) (f n))

-- a longer sum in two parts
pub sum_below-sum : (n k : ℕ) (f : ℕ → ℕ) → sum_below (n + k) f ≡ sum_below n f + sum_below k (λ j. f (n + j))
unfolding sum_below
sum_below-sum n zero f = let e : n + 0 ≡ n = omega arith in ap (λ m. sum_below m f) e ∙ omega arith
sum_below-sum n (suc k) f =
    let e : n + suc k ≡ suc (n + k) = omega arith in
    ap (λ m. sum_below m f) e ∙ omega (arith, sum_below-sum n k f)

-- rows of equal length
pub sum_below-rows : (m s : ℕ) (f : ℕ → ℕ) → sum_below m (λ a. sum_below s (λ b. f (a * s + b))) ≡ sum_below (m * s) f
unfolding sum_below
sum_below-rows zero s f = let e : 0 * s ≡ 0 = omega arith in sym (ap (λ k. sum_below k f) e)
sum_below-rows (suc m) s f =
    let e : m * s + s ≡ suc m * s = omega arith in
    ap (λ a. a + sum_below s (λ b. f (m * s + b))) (sum_below-rows m s f) ∙ sym (sum_below-sum (m * s) s f) ∙ ap (λ k. sum_below k f) e

-- a guard cuts the sum off
pub sum_below-guard : (n m : ℕ) (f : ℕ → ℕ) → n ≤ m → sum_below m (λ i. if nat_lt i n then f i else 0) ≡ sum_below n f
sum_below-guard n m f le =
    let g : ℕ → ℕ = λ i. if nat_lt i n then f i else 0 in
    let e : n + (m - n) ≡ m = omega arith in
    let one : sum_below n g ≡ sum_below n f = sum_below_same n g f (λ i l. rw (lt-ltb i n l) refl) in
    let two : sum_below (m - n) (λ j. g (n + j)) ≡ 0 = sum_below_zero (m - n) (λ j. g (n + j)) (λ i l. let past : n ≤ n + i = omega arith in rw (le-ltb (n + i) n past) refl) in
    ap (λ k. sum_below k g) (sym e) ∙ sum_below-sum n (m - n) g ∙ omega (arith, one, two)

-- a split with its guard
pub sum_below-split : (n m s : ℕ) (f : ℕ → ℕ) → n ≤ m * s → sum_below m (λ a. sum_below s (λ b. if nat_lt (a * s + b) n then f (a * s + b) else 0)) ≡ sum_below n f
sum_below-split n m s f le = sum_below-rows m s (λ i. if nat_lt i n then f i else 0) ∙ sum_below-guard n (m * s) f le

-- two loops as one
pub sum_below-collapse : (n m : ℕ) (f : ℕ → ℕ → ℕ) → sum_below (n * m) (λ j. f (j / m) (j % m)) ≡ sum_below n (λ a. sum_below m (f a))
sum_below-collapse n m f =
    sym (sum_below-rows n m (λ j. f (j / m) (j % m)))
    ∙ sum_below_same n _ _ (λ a la. sum_below_same m _ _ (λ b lb. rw (div-mul-add a m b lb, mod-mul-add a m b lb) refl))

-- a rotation of the values
pub sum_below-rotate_by : (n j : ℕ) (f : ℕ → ℕ) → j < n → sum_below n (λ r. f ((r + j) % n)) ≡ sum_below n f
sum_below-rotate_by n j f l =
    let g : ℕ → ℕ = λ r. f ((r + j) % n) in
    let e : (n - j) + j ≡ n = omega arith in
    let e' : j + (n - j) ≡ n = omega arith in
    let low : sum_below (n - j) g ≡ sum_below (n - j) (λ i. f (j + i)) =
    sum_below_same (n - j) g (λ i. f (j + i)) (λ i h. let q : i + j < n = omega arith in ap f (mod-eq_of_lt q ∙ omega arith)) in
    let high : sum_below j (λ i. g ((n - j) + i)) ≡ sum_below j f =
    sum_below_same j (λ i. g ((n - j) + i)) f (λ i h. ap f (wraps n j i l h)) in
    ap (λ k. sum_below k g) (sym e) ∙ sum_below-sum (n - j) j g
    ∙ omega (arith, low, high, sum_below-sum j (n - j) f, ap (λ k. sum_below k f) e')
  where
    wraps : (n j i : ℕ) → j < n → i < j → ((n - j) + i + j) % n ≡ i
    wraps n j i l h = let e : (n - j) + i + j ≡ i + n * 1 = omega arith in let q : i < n = omega arith in ap (λ k. k % n) e ∙ add-mul-mod_self_left i n 1 ∙ mod-eq_of_lt q

pub sum_below-rotate : (n k : ℕ) (f : ℕ → ℕ) → sum_below n (λ r. f ((r + k) % n)) ≡ sum_below n f
unfolding sum_below
sum_below-rotate zero k f = refl
sum_below-rotate (suc n) k f =
    sum_below_same (suc n) (λ r. f ((r + k) % suc n)) (λ r. f ((r + k % suc n) % suc n)) (λ r h. ap f (sym (add-mod-mod r k (suc n))))
    ∙ sum_below-rotate_by (suc n) (k % suc n) f (omega arith)
