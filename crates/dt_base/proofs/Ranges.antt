-- The numbers below n.
use Rattle.std.proofs.Common.{◌≡◌, ℕ, zero, suc, ◌+◌, ◌<◌, List, [], ◌∷◌, ◌++◌, length, length-append, get_or, map, refl, ap, sym, ◌∙◌, arith, add-one, Bool, true, cond, inl, inr}
use Rattle.std.specs.List.{filter, range_with_len}
use Rattle.std.proofs.Math.Seq.{get_or-append_seam}
use Rattle.std.proofs.lemmas.Bool.{cases_lt}
use Rattle.std.proofs.lemmas.List.{get_or_append_left, map-append}
use Rattle.std.proofs.lemmas.List.Elements.{filter-append}
use Rattle.dt_base.specs.Ranges.{below}

-- there are n of them
pub length-below : (n : ℕ) → length (below n) ≡ n
length-below zero = refl
length-below (suc n) = length-append (below n) (n ∷ []) ∙ omega (arith, length-below n)

-- each is at its own place
pub get_or-below : (n k d : ℕ) → k < n → get_or (below n) k d ≡ k
get_or-below zero k d h = absurd (omega arith)
get_or-below (suc n) k d h = elim (cases_lt k n) [
  | inl less ↦ get_or_append_left (below n) (n ∷ []) d k (omega (arith, length-below n)) ∙ get_or-below n k d less
  | inr le ↦ last n k d (omega arith)
]
  where
    last : (n k d : ℕ) → k ≡ n → get_or (below n ++ n ∷ []) k d ≡ k
    last n k d e = ap (λ (i : ℕ). get_or (below n ++ n ∷ []) i d) (e ∙ sym (length-below n)) ∙ get_or-append_seam (below n) n [] d ∙ sym e

-- one more number
pub map_below-more : {X : Type 0} (f : ℕ → X) (n : ℕ) → map f (below (n + 1)) ≡ map f (below n) ++ f n ∷ []
map_below-more f n = rw add-one (map-append f (below n) (n ∷ []))

-- one more number that is tested
pub filter_below-more : (p : ℕ → Bool) (n : ℕ) → filter p (below (n + 1)) ≡ filter p (below n) ++ cond (p n) (n ∷ []) []
filter_below-more p n = rw add-one (filter-append p (below n) (n ∷ []))

-- each number passes
pub filter_below-every : (p : ℕ → Bool) (n : ℕ) → ((k : ℕ) → k < n → p k ≡ true) → filter p (below n) ≡ below n
filter_below-every p zero h = refl
filter_below-every p (suc n) h =
    filter-append p (below n) (n ∷ []) ∙ ap (λ (l : List ℕ). l ++ filter p (n ∷ [])) (filter_below-every p n (λ k lt. h k (omega arith)))
    ∙ ap (λ (b : Bool). below n ++ cond b (n ∷ []) []) (h n (omega arith))

-- one more number of std's range
pub range_with_len-more : (a n : ℕ) → range_with_len a (suc n) ≡ range_with_len a n ++ (a + n) ∷ []
range_with_len-more a zero = ap (λ (k : ℕ). k ∷ []) (let e : a ≡ a + 0 = omega arith in e)
range_with_len-more a (suc n) = ap (λ (l : List ℕ). a ∷ l) (range_with_len-more (a + 1) n ∙ ap (λ (k : ℕ). range_with_len (a + 1) n ++ k ∷ []) (let e : a + 1 + n ≡ a + suc n = omega arith in e))

-- std's range from 0 on
pub range_with_len-below : (n : ℕ) → range_with_len 0 n ≡ below n
range_with_len-below zero = refl
range_with_len-below (suc n) = range_with_len-more 0 n ∙ ap (λ (l : List ℕ). l ++ (0 + n) ∷ []) (range_with_len-below n) ∙ ap (λ (k : ℕ). below n ++ k ∷ []) (let e : 0 + n ≡ n = omega arith in e)
