-- The ring's sums and products are exact ones modulo 2 ^ 64.
use Rattle.std.proofs.Common.{◌≡◌, ℕ, ◌+◌, ◌*◌, ◌-◌, ◌^◌, ◌%◌, ◌<◌, List, [], ◌∷◌, ◌++◌, length, drop, map, refl, ap, sym, ◌∙◌, arith, sum_by, fold, Bool, true, false}
use Rattle.std.proofs.lemmas.List.Sums.{sum_by-cons}
use Rattle.std.proofs.lemmas.Nat.{mul-mod_first, mul-mod_second}
use Rattle.std.proofs.Math.Nat.{mod-add-mod, add-mod-mod, mod-mod}
use Rattle.dt_base.specs.Rows.{product}
use Rattle.dt_base.specs.Ranges.{assignments}
use Rattle.dt_base.proofs.Sums.{sum_by-same}
use Rattle.dt_model.specs.Ring.{ring_add, ring_mul, ring_sum_by, ring_product_by, ring_signed}
use Rattle.dt_model.proofs.TermSums.{minus_is}
use Rattle.dt_model.specs.RingValue.{ValueIsARingSum}
use Rattle.dt_model.specs.WholeTensor.{WholeTensor}
use Rattle.dt_model.specs.Value.{factor_value, term_value, term_sum, sign}
use Rattle.dt_model.specs.declared.stmt.Factor.{Factor}
use Rattle.dt_model.specs.declared.stmt.Term.{Term}

-- a ring sum that begins at a modulo 2 ^ 64
sum_from : {A : Type 0} (f : A → ℕ) (a : ℕ) (xs : List A) → fold (λ s x. ring_add s (f x)) (a % 2 ^ 64) xs ≡ (a + sum_by f xs) % 2 ^ 64
sum_from f a [] = ap (λ (n : ℕ). n % 2 ^ 64) (omega arith)
sum_from f a (x ∷ xs) =
    ap (λ (n : ℕ). fold (λ s x. ring_add s (f x)) n xs) (mod-add-mod a (2 ^ 64) (f x)) ∙ sum_from f (a + f x) xs
    ∙ ap (λ (n : ℕ). n % 2 ^ 64) (omega (arith, sum_by-cons f x xs))

-- a ring product that begins at a modulo 2 ^ 64
product_from : {A : Type 0} (f : A → ℕ) (a : ℕ) (xs : List A) → fold (λ p x. ring_mul p (f x)) (a % 2 ^ 64) xs ≡ (a * product (map f xs)) % 2 ^ 64
product_from f a [] = ap (λ (n : ℕ). n % 2 ^ 64) (omega arith)
product_from f a (x ∷ xs) =
    ap (λ (n : ℕ). fold (λ p x. ring_mul p (f x)) n xs) (mul-mod_first a (f x) (2 ^ 64)) ∙ product_from f (a * f x) xs
    ∙ ap (λ (n : ℕ). n % 2 ^ 64) (omega arith)

pub ring_sum_by-is : {A : Type 0} (f : A → ℕ) (xs : List A) → ring_sum_by f xs ≡ sum_by f xs % 2 ^ 64
ring_sum_by-is f xs = sum_from f 0 xs ∙ ap (λ (n : ℕ). n % 2 ^ 64) (omega arith)

pub ring_product_by-is : {A : Type 0} (f : A → ℕ) (xs : List A) → ring_product_by f xs ≡ product (map f xs) % 2 ^ 64
ring_product_by-is f xs = product_from f 1 xs ∙ ap (λ (n : ℕ). n % 2 ^ 64) (omega arith)

-- a sum of numbers modulo 2 ^ 64
sum_by-mod : {A : Type 0} (f : A → ℕ) (xs : List A) → sum_by (λ x. f x % 2 ^ 64) xs % 2 ^ 64 ≡ sum_by f xs % 2 ^ 64
sum_by-mod f [] = refl
sum_by-mod f (x ∷ xs) =
    ap (λ (n : ℕ). n % 2 ^ 64) (sum_by-cons (λ x. f x % 2 ^ 64) x xs)
    ∙ mod-add-mod (f x) (2 ^ 64) (sum_by (λ x. f x % 2 ^ 64) xs)
    ∙ sym (add-mod-mod (f x) (sum_by (λ x. f x % 2 ^ 64) xs) (2 ^ 64))
    ∙ ap (λ (n : ℕ). (f x + n) % 2 ^ 64) (sum_by-mod f xs)
    ∙ add-mod-mod (f x) (sum_by f xs) (2 ^ 64)
    ∙ ap (λ (n : ℕ). n % 2 ^ 64) (sym (sum_by-cons f x xs))

-- the sign of a number modulo 2 ^ 64
ring_signed-mod : (minus : Bool) (a : ℕ) → ring_signed minus (a % 2 ^ 64) % 2 ^ 64 ≡ (sign minus * a) % 2 ^ 64
ring_signed-mod true a =
    let small : a % 2 ^ 64 < 2 ^ 64 = omega arith in
    mod-mod (2 ^ 64 - a % 2 ^ 64) (2 ^ 64)
    ∙ ap (λ (n : ℕ). n % 2 ^ 64) (omega arith)
    ∙ minus_is 0 (a % 2 ^ 64) small
    ∙ ap (λ (n : ℕ). n % 2 ^ 64) (omega arith)
    ∙ mul-mod_second (2 ^ 64 - 1) a (2 ^ 64)
ring_signed-mod false a = mod-mod a (2 ^ 64) ∙ ap (λ (n : ℕ). n % 2 ^ 64) (omega arith)

-- the reduction's sum in the ring
term_sum-ring : (ts : List WholeTensor) (reduced c : List ℕ) (fs : List Factor)
    → ring_sum_by (λ a. ring_product_by (factor_value ts (c ++ a)) fs) (assignments reduced) ≡ term_sum ts reduced c fs % 2 ^ 64
term_sum-ring ts reduced c fs =
    ring_sum_by-is (λ a. ring_product_by (factor_value ts (c ++ a)) fs) (assignments reduced)
    ∙ ap (λ (n : ℕ). n % 2 ^ 64) (sum_by-same (λ a. ring_product_by (factor_value ts (c ++ a)) fs) (λ a. term_value ts (c ++ a) fs % 2 ^ 64) (assignments reduced) (λ a. ring_product_by-is (factor_value ts (c ++ a)) fs))
    ∙ sum_by-mod (λ a. term_value ts (c ++ a) fs) (assignments reduced)

-- one signed term in the ring
signed-ring : (ts : List WholeTensor) (reduced c : List ℕ) (t : Term)
    → ring_signed t.minus (ring_sum_by (λ a. ring_product_by (factor_value ts (c ++ a)) t.factors) (assignments reduced)) % 2 ^ 64 ≡ (sign t.minus * term_sum ts reduced c t.factors) % 2 ^ 64
signed-ring ts reduced c t = rw (term_sum-ring ts reduced c t.factors) (ring_signed-mod t.minus (term_sum ts reduced c t.factors))

pub value_is_ring : ValueIsARingSum
value_is_ring s tensors c =
    let reduced : List ℕ = drop (length c) s.extents in
    let in_ring : Term → ℕ = λ t. ring_signed t.minus (ring_sum_by (λ a. ring_product_by (factor_value tensors (c ++ a)) t.factors) (assignments reduced)) in
    let exact : Term → ℕ = λ t. sign t.minus * term_sum tensors reduced c t.factors in
    sym (sum_by-mod exact s.terms)
    ∙ ap (λ (n : ℕ). n % 2 ^ 64) (sum_by-same (λ t. exact t % 2 ^ 64) (λ t. in_ring t % 2 ^ 64) s.terms (λ t. sym (signed-ring tensors reduced c t)))
    ∙ sum_by-mod in_ring s.terms
    ∙ sym (ring_sum_by-is in_ring s.terms)
