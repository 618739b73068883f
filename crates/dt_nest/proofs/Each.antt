-- Facts of each element of a list.
use Rattle.std.proofs.Common.{ℕ, zero, suc, ◌<◌, Bool, true, false, List, [], ◌∷◌, ◌++◌, length, get_or, arith, filter}
use Rattle.std.specs.Prelude.{if◌then◌else◌, map}
use Rattle.std.specs.List.{All, AllByRecursion, flat_map}
use Rattle.dt_base.specs.Ranges.{below}

-- a fact of each element gives another fact of each
pub all_map : {X : Type 0} (P Q : X → Type 0) → ((x : X) → P x → Q x) → (xs : List X) → AllByRecursion P xs → AllByRecursion Q xs
all_map P Q f [] h = tt
all_map P Q f (x ∷ xs) h = (f x h.0, all_map P Q f xs h.1)

-- two facts of each element give a third
pub all_both : {X : Type 0} (P Q R : X → Type 0) → ((x : X) → P x → Q x → R x) → (xs : List X) → AllByRecursion P xs → AllByRecursion Q xs → AllByRecursion R xs
all_both P Q R f [] p q = tt
all_both P Q R f (x ∷ xs) p q = (f x p.0 q.0, all_both P Q R f xs p.1 q.1)

-- two lists, one after the other
pub all_append : {X : Type 0} (P : X → Type 0) (xs ys : List X) → AllByRecursion P xs → AllByRecursion P ys → AllByRecursion P (xs ++ ys)
all_append P [] ys h k = k
all_append P (x ∷ xs) ys h k = (h.0, all_append P xs ys h.1 k)

-- the elements that pass a test
pub all_filter : {X : Type 0} (P : X → Type 0) (p : X → Bool) (xs : List X) → AllByRecursion P xs → AllByRecursion P (filter p xs)
all_filter P p [] h = tt
all_filter {X} P p (x ∷ xs) h = go (p x) (all_filter P p xs h.1)
  where
    go : (b : Bool) → AllByRecursion P (filter p xs) → AllByRecursion P (if b then x ∷ filter p xs else filter p xs)
    go true r = (h.0, r)
    go false r = r

-- the element at an index
pub all_get : {X : Type 0} (P : X → Type 0) (xs : List X) (k : ℕ) (d : X) → AllByRecursion P xs → k < length xs → P (get_or xs k d)
all_get P [] k d h l = absurd (omega arith)
all_get P (x ∷ xs) zero d h l = h.0
all_get P (x ∷ xs) (suc k) d h l = all_get P xs k d h.1 (omega arith)

-- the elements that a function makes of a list's
pub all_made : {X Y : Type 0} (P : X → Type 0) (Q : Y → Type 0) (f : X → Y) → ((x : X) → P x → Q (f x)) → (xs : List X) → AllByRecursion P xs → AllByRecursion Q (map f xs)
all_made P Q f g [] h = tt
all_made P Q f g (x ∷ xs) h = (g x h.0, all_made P Q f g xs h.1)

-- the elements of lists that a function makes of a list's
pub all_flat : {X Y : Type 0} (P : X → Type 0) (Q : Y → Type 0) (f : X → List Y) → ((x : X) → P x → AllByRecursion Q (f x)) → (xs : List X) → AllByRecursion P xs → AllByRecursion Q (flat_map f xs)
all_flat P Q f g [] h = tt
all_flat P Q f g (x ∷ xs) h = all_append Q (f x) (flat_map f xs) (g x h.0) (all_flat P Q f g xs h.1)

-- the same, where the function makes such lists of all
pub all_flat_map : {X Y : Type 0} (P : Y → Type 0) (f : X → List Y) (xs : List X) → ((x : X) → AllByRecursion P (f x)) → AllByRecursion P (flat_map f xs)
all_flat_map P f [] h = tt
all_flat_map P f (x ∷ xs) h = all_append P (f x) (flat_map f xs) (h x) (all_flat_map P f xs h)

-- a fact at each index is one of each element
pub all_of : {X : Type 0} (P : X → Type 0) (xs : List X) → All P xs → AllByRecursion P xs
all_of P [] h = tt
all_of P (x ∷ xs) h = (h 0 x (omega arith), all_of P xs (λ k d l. h (suc k) d (omega arith)))

-- the numbers below n are below it
pub below_all : (n : ℕ) → AllByRecursion (λ i. i < n) (below n)
below_all zero = tt
below_all (suc n) =
    all_append (λ i. i < suc n) (below n) (n ∷ []) (all_map (λ i. i < n) (λ i. i < suc n) (λ i l. omega arith) (below n) (below_all n)) (omega arith, tt)
