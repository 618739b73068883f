-- The first place of a list and the first number of a range that pass a test, and equal lists of numbers.
use Rattle.std.proofs.Common.{◌≡◌, ℕ, zero, suc, ◌<◌, List, [], ◌∷◌, length, get_or, refl, ap, sym, ◌∙◌, arith, Option, Some, None, Bool, true, false, cond, inl, inr}
use Rattle.std.specs.Str.{bytes_eq}
use Rattle.std.specs.List.{find, position, position_or_len}
use Rattle.std.specs.Option.{option_or}
use Rattle.std.proofs.lemmas.Bool.{lt-ltb, le-ltb, false_from_ne_true, cases_lt}
use Rattle.std.proofs.lemmas.Bool.Decides.{same_from_decides}
use Rattle.std.proofs.lemmas.List.Folds.{find-append}
use Rattle.std.proofs.lemmas.List.Sums.{position_or_len_is}
use Rattle.std.proofs.lemmas.Slice.Eq.{bytes_eq-Decides}
use Rattle.dt_base.specs.Ranges.{below}

-- a list equals itself
pub bytes_eq-same : (xs : List ℕ) → bytes_eq xs xs ≡ true
bytes_eq-same xs = (bytes_eq-Decides xs xs).1 refl

-- lists whose test passes are one
pub bytes_eq-is : (xs ys : List ℕ) → bytes_eq xs ys ≡ true → xs ≡ ys
bytes_eq-is xs ys h = (bytes_eq-Decides xs ys).0 h

-- the test is the same both ways
pub bytes_eq-swap : (xs ys : List ℕ) → bytes_eq xs ys ≡ bytes_eq ys xs
bytes_eq-swap xs ys = same_from_decides (bytes_eq xs ys) (bytes_eq ys xs) (bytes_eq-Decides xs ys) (λ t. sym (bytes_eq-is ys xs t), λ e. (bytes_eq-Decides ys xs).1 (sym e))

-- lists that differ are not equal
pub bytes_eq-apart : (xs ys : List ℕ) → (xs ≡ ys → ⊥) → bytes_eq xs ys ≡ false
bytes_eq-apart xs ys h = false_from_ne_true (bytes_eq xs ys) (λ e. h ((bytes_eq-Decides xs ys).0 e))

-- the first place that passes
pub position-is : {X : Type 0} (p : X → Bool) (xs : List X) (i : ℕ) (d : X) → i < length xs → p (get_or xs i d) ≡ true → ((k : ℕ) → k < i → p (get_or xs k d) ≡ false)
    → position p xs ≡ Some i
position-is p xs i d h here before =
    let at : position_or_len p xs ≡ i = position_or_len_is p xs i d (omega arith) before (λ _. here) in
    rw (at, lt-ltb i (length xs) h) refl

-- no place passes
pub position-none : {X : Type 0} (p : X → Bool) (xs : List X) (d : X) → ((k : ℕ) → k < length xs → p (get_or xs k d) ≡ false) → position p xs ≡ None
position-none p xs d none =
    let at : position_or_len p xs ≡ length xs = position_or_len_is p xs (length xs) d (omega arith) none (λ h. absurd (omega arith)) in
    rw (at, le-ltb (length xs) (length xs) (omega arith)) refl

-- one more number of a range
find_more : (p : ℕ → Bool) (n : ℕ) (r : Option ℕ) → find p (below n) ≡ r → find p (below (suc n)) ≡ option_or r (cond (p n) (Some n) None)
find_more p n r e = find-append p (below n) (n ∷ []) ∙ ap (λ (o : Option ℕ). option_or o (cond (p n) (Some n) None)) e

-- no number of a range passes
pub find-below-none : (p : ℕ → Bool) (n : ℕ) → ((k : ℕ) → k < n → p k ≡ false) → find p (below n) ≡ None
find-below-none p zero h = refl
find-below-none p (suc n) h =
    let last : p n ≡ false = h n (omega arith) in
    find_more p n None (find-below-none p n (λ k lt. h k (omega arith))) ∙ ap (λ (b : Bool). option_or None (cond b (Some n) None)) last

-- the first number of a range that passes
pub find-below-some : (p : ℕ → Bool) (n k : ℕ) → k < n → p k ≡ true → ((j : ℕ) → j < k → p j ≡ false) → find p (below n) ≡ Some k
find-below-some p zero k lt here before = absurd (omega arith)
find-below-some p (suc n) k lt here before = elim (cases_lt k n) [
  | inl less ↦ find_more p n (Some k) (find-below-some p n k less here before)
  | inr le ↦ last p n k (omega arith) here before
]
  where
    last : (p : ℕ → Bool) (n k : ℕ) → k ≡ n → p k ≡ true → ((j : ℕ) → j < k → p j ≡ false) → find p (below (suc n)) ≡ Some k
    last p n k e here before =
        let passes : p n ≡ true = ap p (sym e) ∙ here in
        find_more p n None (find-below-none p n (λ j h. before j (omega arith))) ∙ ap (λ (b : Bool). option_or None (cond b (Some n) None)) passes ∙ ap Some (sym e)
