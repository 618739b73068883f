-- Factors and terms of symbols, from the front.
use Rattle.std.proofs.Common.{◌≡◌, ℕ, suc, ◌+◌, ◌<◌, List, [], ◌∷◌, length, take, drop, get_or, Bool, true, false, Some, None, arith, refl, sym, ap, ◌∙◌, subst, inl, inr}
use Rattle.std.specs.Prelude.{find}
use Rattle.std.specs.List.{position_or_len}
use Rattle.dt_text.proofs.WordLemmas.{bool_cases}
use Rattle.dt_text.proofs.Places.{place-here}
use Rattle.dt_index.specs.Form.{factor_parts, is_times, is_minus, is_plus_or_minus, term_parts}
use Rattle.dt_index.specs.declared.symbol_list.Symbol.{Symbol}

length-cons : {A : Type 0} (x : A) (xs : List A) → length (x ∷ xs) ≡ suc (length xs)
length-cons x xs = refl

place-later : {A : Type 0} (p : A → Bool) (x : A) (xs : List A) → p x ≡ false → position_or_len p (x ∷ xs) ≡ suc (position_or_len p xs)
place-later p x xs h = rw h (omega arith)

-- Factors -------------------------------------------------------------------------------------------------------------

abbrev pub FirstFactor : List Symbol → ℕ → Type 0
FirstFactor ss k = factor_parts ss ≡ take k ss ∷ factor_parts (drop (k + 1) ss)

factor_here : (s : Symbol) (ss : List Symbol) → is_times s ≡ true → FirstFactor (s ∷ ss) 0
factor_here s ss h = rw h refl

factor_later : (s : Symbol) (ss : List Symbol) (k : ℕ) → is_times s ≡ false → FirstFactor ss k → FirstFactor (s ∷ ss) (suc k)
factor_later s ss k h r =
    let e : suc k + 1 ≡ suc (k + 1) = omega arith in
    rw (h, r, e) refl

one_factor_later : (s : Symbol) (ss : List Symbol) → is_times s ≡ false → factor_parts ss ≡ ss ∷ [] → factor_parts (s ∷ ss) ≡ (s ∷ ss) ∷ []
one_factor_later s ss h r = rw (h, r) refl

-- without `*` there is one part
pub one_factor : (ss : List Symbol) → position_or_len is_times ss ≡ length ss → factor_parts ss ≡ ss ∷ []
one_factor [] e = refl
one_factor (s ∷ ss) e = elim (bool_cases (is_times s)) [
  | inl h ↦ (let z : 0 ≡ length (s ∷ ss) = sym (place-here is_times s ss h) ∙ e in absurd (omega (arith, length-cons s ss)))
  | inr h ↦ (let z : suc (position_or_len is_times ss) ≡ length (s ∷ ss) = sym (place-later is_times s ss h) ∙ e in one_factor_later s ss h (one_factor ss (omega (arith, length-cons s ss))))
]

-- the first `*` parts the first factor from the others
pub first_factor : (ss : List Symbol) → position_or_len is_times ss < length ss → FirstFactor ss (position_or_len is_times ss)
first_factor [] l = absurd (omega arith)
first_factor (s ∷ ss) l = elim (bool_cases (is_times s)) [
  | inl h ↦ subst (FirstFactor (s ∷ ss)) (sym (place-here is_times s ss h)) (factor_here s ss h)
  | inr h ↦ (let e = place-later is_times s ss h in subst (FirstFactor (s ∷ ss)) (sym e) (factor_later s ss (position_or_len is_times ss) h (first_factor ss (omega (arith, length-cons s ss)))))
]

-- Terms ---------------------------------------------------------------------------------------------------------------

abbrev pub FirstTerm : Bool → List Symbol → Symbol → ℕ → Type 0
FirstTerm m ss d k = term_parts m ss ≡ record { minus = m; symbols = take k ss } ∷ term_parts (is_minus (get_or ss k d)) (drop (k + 1) ss)

term_here : (m : Bool) (s d : Symbol) (ss : List Symbol) → is_plus_or_minus s ≡ true → FirstTerm m (s ∷ ss) d 0
term_here m s d ss h = rw h refl

term_later : (m : Bool) (s d : Symbol) (ss : List Symbol) (k : ℕ) → is_plus_or_minus s ≡ false → FirstTerm m ss d k → FirstTerm m (s ∷ ss) d (suc k)
term_later m s d ss k h r =
    let e : suc k + 1 ≡ suc (k + 1) = omega arith in
    rw (h, r, e) refl

one_term_later : (m : Bool) (s : Symbol) (ss : List Symbol) → is_plus_or_minus s ≡ false → term_parts m ss ≡ record { minus = m; symbols = ss } ∷ [] → term_parts m (s ∷ ss) ≡ record { minus = m; symbols = s ∷ ss } ∷ []
one_term_later m s ss h r = rw (h, r) refl

-- without `+` and `-` there is one part
pub one_term : (m : Bool) (ss : List Symbol) → position_or_len is_plus_or_minus ss ≡ length ss → term_parts m ss ≡ record { minus = m; symbols = ss } ∷ []
one_term m [] e = refl
one_term m (s ∷ ss) e = elim (bool_cases (is_plus_or_minus s)) [
  | inl h ↦ (let z : 0 ≡ length (s ∷ ss) = sym (place-here is_plus_or_minus s ss h) ∙ e in absurd (omega (arith, length-cons s ss)))
  | inr h ↦ (let z : suc (position_or_len is_plus_or_minus ss) ≡ length (s ∷ ss) = sym (place-later is_plus_or_minus s ss h) ∙ e in one_term_later m s ss h (one_term m ss (omega (arith, length-cons s ss))))
]

-- the first `+` or `-` parts the first term from the others
pub first_term : (m : Bool) (d : Symbol) (ss : List Symbol) → position_or_len is_plus_or_minus ss < length ss → FirstTerm m ss d (position_or_len is_plus_or_minus ss)
first_term m d [] l = absurd (omega arith)
first_term m d (s ∷ ss) l = elim (bool_cases (is_plus_or_minus s)) [
  | inl h ↦ subst (FirstTerm m (s ∷ ss) d) (sym (place-here is_plus_or_minus s ss h)) (term_here m s d ss h)
  | inr h ↦ (let e = place-later is_plus_or_minus s ss h in subst (FirstTerm m (s ∷ ss) d) (sym e) (term_later m s d ss (position_or_len is_plus_or_minus ss) h (first_term m d ss (omega (arith, length-cons s ss)))))
]

-- Assignments ---------------------------------------------------------------------------------------------------------

find_later : {A : Type 0} (p : A → Bool) (x : A) (xs : List A) → p x ≡ false → find p (x ∷ xs) ≡ find p xs
find_later p x xs h = rw h refl

find_here : {A : Type 0} (p : A → Bool) (x : A) (xs : List A) → p x ≡ true → find p (x ∷ xs) ≡ Some x
find_here p x xs h = rw h refl

-- the first element that passes stands at the first place
pub find_at_place : {A : Type 0} (p : A → Bool) (d : A) (xs : List A) → position_or_len p xs < length xs → find p xs ≡ Some (get_or xs (position_or_len p xs) d)
find_at_place p d [] l = absurd (omega arith)
find_at_place {A} p d (x ∷ xs) l = elim (bool_cases (p x)) [
  | inl h ↦ find_here p x xs h ∙ ap (λ (k : ℕ). Some (get_or (x ∷ xs) k d)) (sym (place-here p x xs h))
  | inr h ↦ (let e = place-later p x xs h in find_later p x xs h ∙ find_at_place p d xs (omega (arith, length-cons x xs)) ∙ ap (λ (k : ℕ). Some (get_or (x ∷ xs) k d)) (sym e))
]

-- none passes where the first place is the length
pub find_none : {A : Type 0} (p : A → Bool) (xs : List A) → position_or_len p xs ≡ length xs → find p xs ≡ None
find_none p [] e = refl
find_none {A} p (x ∷ xs) e = elim (bool_cases (p x)) [
  | inl h ↦ (let z : 0 ≡ length (x ∷ xs) = sym (place-here p x xs h) ∙ e in absurd (omega (arith, length-cons x xs)))
  | inr h ↦ (let z : suc (position_or_len p xs) ≡ length (x ∷ xs) = sym (place-later p x xs h) ∙ e in find_later p x xs h ∙ find_none p xs (omega (arith, length-cons x xs)))
]
