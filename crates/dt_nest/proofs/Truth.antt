-- Facts of tests, and of lists in which an element passes one.
use Rattle.std.proofs.Common.{◌≡◌, ℕ, ◌<◌, ◌≤◌, Bool, true, false, ◌||◌, ◌&&◌, List, [], ◌∷◌, refl}
use Rattle.std.specs.Prelude.{not, nat_lt}
use Rattle.std.specs.List.{AllByRecursion, list_any}
use Rattle.std.proofs.lemmas.Bool.{ltb-true, ltb-false, or_left, or_right, or_parts, or_from}

pub or_either : (R : Type 0) (a b : Bool) → (a || b) ≡ true → (a ≡ true → R) → (b ≡ true → R) → R
or_either R true b h f g = f refl
or_either R false b h f g = g h

-- a number is below a bound or not
pub below_or_past : (R : Type 0) (u k : ℕ) → (u < k → R) → (k ≤ u → R) → R
below_or_past R u k f g = go (nat_lt u k) (ltb-true u k) (ltb-false u k)
  where
    go : (b : Bool) → (b ≡ true → u < k) → (b ≡ false → k ≤ u) → R
    go true p q = f (p refl)
    go false p q = g (q refl)

-- both facts of each element
pub all_and : {X : Type 0} (P Q : X → Type 0) (xs : List X) → AllByRecursion P xs → AllByRecursion Q xs → AllByRecursion (λ x. P x × Q x) xs
all_and P Q [] h k = tt
all_and P Q (x ∷ xs) h k = ((h.0, k.0), all_and P Q xs h.1 k.1)

-- an element that passes the test has the fact of each
pub any_with : {X : Type 0} (R : Type 0) (p : X → Bool) (P : X → Type 0) → ((x : X) → p x ≡ true → P x → R) → (xs : List X) → list_any p xs ≡ true → AllByRecursion P xs → R
any_with R p P f [] h a = absurd (cc)
any_with R p P f (x ∷ xs) h a = or_either R (p x) (list_any p xs) h (λ e. f x e a.0) (λ e. any_with R p P f xs e a.1)

-- a test that passes more
pub any_more : {X : Type 0} (p q : X → Bool) → ((x : X) → p x ≡ true → q x ≡ true) → (xs : List X) → list_any p xs ≡ true → list_any q xs ≡ true
any_more p q f [] h = h
any_more p q f (x ∷ xs) h =
    or_either (list_any q (x ∷ xs) ≡ true) (p x) (list_any p xs) h
    (λ e. or_left (q x) (list_any q xs) (f x e)) (λ e. or_right (q x) (list_any q xs) (any_more p q f xs e))

-- a test that passes what the first passes where the fact holds
pub any_where : {X : Type 0} (p q : X → Bool) (P : X → Type 0) → ((x : X) → p x ≡ true → P x → q x ≡ true) → (xs : List X) → list_any p xs ≡ true → AllByRecursion P xs → list_any q xs ≡ true
any_where p q P f [] h a = h
any_where p q P f (x ∷ xs) h a =
    or_either (list_any q (x ∷ xs) ≡ true) (p x) (list_any p xs) h
    (λ e. or_left (q x) (list_any q xs) (f x e a.0)) (λ e. or_right (q x) (list_any q xs) (any_where p q P f xs e a.1))

-- no element passes the test
pub any_none : {X : Type 0} (p : X → Bool) (xs : List X) → list_any p xs ≡ false → AllByRecursion (λ x. p x ≡ false) xs
any_none p [] h = tt
any_none p (x ∷ xs) h = let o = or_parts (p x) (list_any p xs) h in (o.0, any_none p xs o.1)

pub none_any : {X : Type 0} (p : X → Bool) (xs : List X) → AllByRecursion (λ x. p x ≡ false) xs → list_any p xs ≡ false
none_any p [] h = refl
none_any p (x ∷ xs) h = or_from (p x) (list_any p xs) h.0 (none_any p xs h.1)
