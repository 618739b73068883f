-- Filters of lists, and tests that always or never pass.
use Rattle.std.proofs.Common.{◌≡◌, ℕ, List, [], ◌∷◌, ◌++◌, map, refl, ap, sym, ◌∙◌, Bool, true, false, cond}
use Rattle.std.specs.Prelude.{filter}
use Rattle.std.specs.List.{flat_map, list_all}
use Rattle.std.proofs.lemmas.List.Elements.{filter-append}

-- Tests -----------------------------------------------------------------------------------------------------------------

-- tests that pass together are one
pub same_truth : (a b : Bool) → (a ≡ true → b ≡ true) → (b ≡ true → a ≡ true) → a ≡ b
same_truth true b to from = sym (to refl)
same_truth false true to from = from refl
same_truth false false to from = refl

-- Lists -----------------------------------------------------------------------------------------------------------------

-- a test that always passes is passed by all
pub list_all-always : {A : Type 0} (p : A → Bool) (xs : List A) → ((x : A) → p x ≡ true) → list_all p xs ≡ true
list_all-always p [] h = refl
list_all-always p (x ∷ xs) h = rw (h x, list_all-always p xs h) refl

-- it keeps all
pub filter-always : {A : Type 0} (p : A → Bool) (xs : List A) → ((x : A) → p x ≡ true) → filter p xs ≡ xs
filter-always p [] h = refl
filter-always p (x ∷ xs) h = rw (h x, filter-always p xs h) refl

-- a test that never passes keeps nothing
pub filter-never : {A : Type 0} (p : A → Bool) (xs : List A) → ((x : A) → p x ≡ false) → filter p xs ≡ []
filter-never p [] h = refl
filter-never p (x ∷ xs) h = rw (h x) (filter-never p xs h)

-- a list whose first element may be left out is mapped
pub mapped-cond : {A B : Type 0} (f : A → B) (b : Bool) (x : A) (xs : List A) → cond b (f x ∷ map f xs) (map f xs) ≡ map f (cond b (x ∷ xs) xs)
mapped-cond f true x xs = refl
mapped-cond f false x xs = refl

-- of a mapped list are kept the elements whose images pass
pub filter-map : {A B : Type 0} (p : B → Bool) (f : A → B) (xs : List A) → filter p (map f xs) ≡ map f (filter (λ x. p (f x)) xs)
filter-map p f [] = refl
filter-map p f (x ∷ xs) = ap (λ l. cond (p (f x)) (f x ∷ l) l) (filter-map p f xs) ∙ mapped-cond f (p (f x)) x (filter (λ y. p (f y)) xs)

-- lists in a row are filtered one by one
pub filter-flat_map : {A X : Type 0} (p : X → Bool) (f : A → List X) (xs : List A) → filter p (flat_map f xs) ≡ flat_map (λ x. filter p (f x)) xs
filter-flat_map p f [] = refl
filter-flat_map p f (x ∷ xs) = filter-append p (f x) (flat_map f xs) ∙ ap (λ l. filter p (f x) ++ l) (filter-flat_map p f xs)
