-- Sums over assignments, one variable after another, and sums and products modulo 2 ^ 64.
use Rattle.std.proofs.Common.{◌≡◌, ℕ, ◌+◌, ◌*◌, ◌^◌, ◌%◌, ◌<◌, List, [], ◌∷◌, ◌++◌, length, take, get_or, map, refl, ap, sym, ◌∙◌, arith, sum_by, add-one}
use Rattle.std.specs.List.{flat_map}
use Rattle.std.proofs.lemmas.List.Sums.{sum_by-append, sum_by-cons, sum_by_push}
use Rattle.std.proofs.lemmas.List.Folds.{fold-map}
use Rattle.std.proofs.lemmas.List.{take_more}
use Rattle.std.proofs.lemmas.Nat.{mul-mod_first}
use Rattle.std.proofs.Math.Nat.{add-mod}
use Rattle.dt_base.specs.Ranges.{below, assignments}
use Rattle.dt_base.specs.Rows.{product}

-- a sum over a mapped list
pub sum_by-map : {A B : Type 0} (f : B → ℕ) (g : A → B) (xs : List A) → sum_by f (map g xs) ≡ sum_by (λ x. f (g x)) xs
sum_by-map f g xs = fold-map (λ s x. s + f x) g 0 xs

-- equal functions have equal sums
pub sum_by-same : {A : Type 0} (f g : A → ℕ) (xs : List A) → ((x : A) → f x ≡ g x) → sum_by f xs ≡ sum_by g xs
sum_by-same f g [] h = refl
sum_by-same f g (x ∷ xs) h = sum_by-cons f x xs ∙ ap (λ (n : ℕ). n + sum_by f xs) (h x) ∙ ap (λ (n : ℕ). g x + n) (sum_by-same f g xs h) ∙ sym (sum_by-cons g x xs)

sum_by-products : (f : List ℕ → ℕ) (rest : List (List ℕ)) (firsts : List ℕ)
    → sum_by f (flat_map (λ i. map (λ a. i ∷ a) rest) firsts) ≡ sum_by (λ i. sum_by (λ a. f (i ∷ a)) rest) firsts
sum_by-products f rest [] = refl
sum_by-products f rest (i ∷ is) =
    sum_by-append f (map (λ a. i ∷ a) rest) (flat_map (λ i. map (λ a. i ∷ a) rest) is)
    ∙ ap (λ (n : ℕ). n + sum_by f (flat_map (λ i. map (λ a. i ∷ a) rest) is)) (sum_by-map f (λ a. i ∷ a) rest)
    ∙ ap (λ (n : ℕ). sum_by (λ a. f (i ∷ a)) rest + n) (sum_by-products f rest is)
    ∙ sym (sum_by-cons (λ i. sum_by (λ a. f (i ∷ a)) rest) i is)

-- a sum over assignments is a sum over the first variable's numbers of sums over the others
pub sum_by-assignments : (f : List ℕ → ℕ) (n : ℕ) (ns : List ℕ) → sum_by f (assignments (n ∷ ns)) ≡ sum_by (λ i. sum_by (λ a. f (i ∷ a)) (assignments ns)) (below n)
sum_by-assignments f n ns = sum_by-products f (assignments ns) (below n)

-- one more term of a sum modulo 2 ^ 64
pub sum_more : (f : ℕ → ℕ) (n s x : ℕ) → s ≡ sum_by f (below n) % 2 ^ 64 → x ≡ f n % 2 ^ 64 → (s + x) % 2 ^ 64 ≡ sum_by f (below (n + 1)) % 2 ^ 64
sum_more f n s x p q = rw (p, q, add-one, sum_by_push f (below n) n) (sym (add-mod (sum_by f (below n)) (f n) (2 ^ 64)))

product-push : {A : Type 0} (f : A → ℕ) (xs : List A) (x : A) → product (map f (xs ++ x ∷ [])) ≡ product (map f xs) * f x
product-push f [] x = omega arith
product-push f (y ∷ ys) x = rw (product-push f ys x) (omega arith)

-- one more factor of a product modulo 2 ^ 64
pub product_more : {A : Type 0} (f : A → ℕ) (xs : List A) (i : ℕ) (y : A) (p v : ℕ) → i < length xs → y ≡ get_or xs i y → v ≡ f y → p ≡ product (map f (take i xs)) % 2 ^ 64
    → (p * v) % 2 ^ 64 ≡ product (map f (take (i + 1) xs)) % 2 ^ 64
product_more f xs i y p v h item q e =
    let whole : take (i + 1) xs ≡ take i xs ++ y ∷ [] = take_more xs i y h ∙ ap (λ z. take i xs ++ z ∷ []) (sym item) in
    rw (e, q, whole, product-push f (take i xs) y) (mul-mod_first (product (map f (take i xs))) (f y) (2 ^ 64))
