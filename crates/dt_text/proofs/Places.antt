-- The first place at which a test passes.
use Rattle.std.proofs.Common.{◌≡◌, ℕ, ◌+◌, List, [], ◌∷◌, length, ◌<◌, Bool, true, false, nat_lt, refl, ap, sym, ◌∙◌, inl, inr, arith}
use Rattle.std.specs.List.{list_any, position_or_len}
use Rattle.std.proofs.lemmas.Bool.Decides.{nat_tests}
use Rattle.dt_text.proofs.WordLemmas.{bool_cases}

first_inside : (m : ℕ) → true ≡ nat_lt 0 (1 + m)
first_inside m = grind (arith, nat_tests)

one_more : (n m : ℕ) → nat_lt n m ≡ nat_lt (1 + n) (1 + m)
one_more n m = grind (arith, nat_tests)

length-cons : {A : Type 0} (x : A) (xs : List A) → length (x ∷ xs) ≡ 1 + length xs
length-cons x xs = omega arith

-- the first element passes
pub place-here : {A : Type 0} (p : A → Bool) (x : A) (xs : List A) → p x ≡ true → position_or_len p (x ∷ xs) ≡ 0
place-here p x xs h = rw h refl

-- it does not
pub place-later : {A : Type 0} (p : A → Bool) (x : A) (xs : List A) → p x ≡ false → position_or_len p (x ∷ xs) ≡ 1 + position_or_len p xs
place-later p x xs h = rw h refl

any-here : {A : Type 0} (p : A → Bool) (x : A) (xs : List A) → p x ≡ true → list_any p (x ∷ xs) ≡ true
any-here p x xs h = rw h refl

any-later : {A : Type 0} (p : A → Bool) (x : A) (xs : List A) → p x ≡ false → list_any p (x ∷ xs) ≡ list_any p xs
any-later p x xs h = rw h refl

-- some element passes where the first place is inside
pub list_any-place : {A : Type 0} (p : A → Bool) (xs : List A) → list_any p xs ≡ nat_lt (position_or_len p xs) (length xs)
list_any-place p [] = refl
list_any-place {A} p (x ∷ xs) = elim (bool_cases (p x)) [
  | inl h ↦ any-here p x xs h ∙ first_inside (length xs) ∙ ap (λ (n : ℕ). nat_lt n (1 + length xs)) (sym (place-here p x xs h)) ∙ ap (λ (n : ℕ). nat_lt (position_or_len p (x ∷ xs)) n) (sym (length-cons x xs))
  | inr h ↦ any-later p x xs h ∙ list_any-place p xs ∙ one_more (position_or_len p xs) (length xs)
      ∙ ap (λ (n : ℕ). nat_lt n (1 + length xs)) (sym (place-later p x xs h)) ∙ ap (λ (n : ℕ). nat_lt (position_or_len p (x ∷ xs)) n) (sym (length-cons x xs))
]

-- no element passes where the first place is the length
pub none_before : {A : Type 0} (p : A → Bool) (xs : List A) (n : ℕ) → n ≡ position_or_len p xs → n ≡ length xs → list_any p xs ≡ false
none_before p xs n e h = list_any-place p xs ∙ ap (λ (k : ℕ). nat_lt k (length xs)) (sym e) ∙ grind (arith, nat_tests)

-- some element passes where the first place is not the length
pub some_before : {A : Type 0} (p : A → Bool) (xs : List A) (n : ℕ) → n ≡ position_or_len p xs → n < length xs → list_any p xs ≡ true
some_before p xs n e h = list_any-place p xs ∙ ap (λ (k : ℕ). nat_lt k (length xs)) (sym e) ∙ grind (arith, nat_tests)
