-- Searches among ascending fronts.
use Rattle.std.proofs.Common.{◌≡◌, ℕ, zero, suc, ◌+◌, ◌-◌, ◌*◌, ◌/◌, ◌%◌, ◌<◌, ◌≤◌, ◌==◌, List, [], ◌∷◌, length, get_or, refl, ap, sym, ◌∙◌, subst, arith, Option, Some, None, is_some, slice_get, Bool, true, false, cond, ◌&&◌, ◌||◌, nat_le, nat_lt, inl, inr, not}
use Rattle.std.specs.List.{Any, find, list_any, position_or_len, prefix_len}
use Rattle.std.specs.List.Sorted.{IsStrictlyIncreasing}
use Rattle.std.proofs.lemmas.Bool.{cases_lt, lt-ltb, le-leb, le-ltb, lt-leb, and_from, and_left, and_right, and_parts, ltb-true, leb-true, or_right}
use Rattle.std.proofs.lemmas.Bool.Decides.{eqb_tells}
use Rattle.std.proofs.lemmas.List.{get_or_default}
use Rattle.std.proofs.lemmas.List.Folds.{find_at, Any-from_list_any, list_any_at}
use Rattle.std.proofs.lemmas.List.Sums.{position_or_len_is, prefix_len_passes, prefix_len-le-length}
use Rattle.std.proofs.lemmas.Nat.{div-mul-add, div-add-mod', mod_below, mul-le}
use Rattle.std.proofs.lemmas.Option.{slice_get_read}
use Rattle.dt_base.specs.Ranges.{below}
use Rattle.dt_base.proofs.Firsts.{find-below-none, find-below-some}
use Rattle.dt_level.proofs.SearchLemmas.{less_before, not_less_at, never_less}

-- something is found where some item passes
pub find_any : {A : Type 0} (p : A → Bool) (xs : List A) → is_some (find p xs) ≡ list_any p xs
find_any p [] = refl
find_any p (x ∷ xs) = by_test (p x) (find_any p xs)
  where
    by_test : (b : Bool) → is_some (find p xs) ≡ list_any p xs → is_some (cond b (Some x) (find p xs)) ≡ (b || list_any p xs)
    by_test true e = refl
    by_test false e = e

-- a number is in a range of the quotient v where its quotient is v
pub in_range : (t v f : ℕ) → 0 < t → (f / t == v) ≡ (nat_le (v * t) f && nat_lt f ((v + 1) * t))
in_range t v f pos = elim (eqb_tells (f / t) v) [
  | inl e ↦
      e.0 ∙ sym (and_from (nat_le (v * t) f) (nat_lt f ((v + 1) * t)) (le-leb (v * t) f (low f t v (f / t) (f % t) (div-add-mod' f t) e.1)) (lt-ltb f ((v + 1) * t) (high f t v (f / t) (f % t) (div-add-mod' f t) (mod_below f t pos) e.1)))
  | inr e ↦ e.0 ∙ sym (outside (nat_le (v * t) f) (nat_lt f ((v + 1) * t)) refl refl e.1)
]
  where
    low : (f t v q r : ℕ) → q * t + r ≡ f → q ≡ v → v * t ≤ f
    low f t v q r e s = subst (λ (k : ℕ). k * t ≤ f) s (omega arith)

    high : (f t v q r : ℕ) → q * t + r ≡ f → r < t → q ≡ v → f < (v + 1) * t
    high f t v q r e lt s = subst (λ (k : ℕ). f < (k + 1) * t) s (let w : (q + 1) * t ≡ q * t + t = omega arith in omega arith)

    outside : (a b : Bool) → nat_le (v * t) f ≡ a → nat_lt f ((v + 1) * t) ≡ b → (f / t ≡ v → ⊥) → (a && b) ≡ false
    outside false b p q off = refl
    outside true false p q off = refl
    outside true true p q off =
        let le : v * t ≤ f = leb-true (v * t) f p in
        let lt : f < (v + 1) * t = ltb-true f ((v + 1) * t) q in
        let more : (v + 1) * t ≡ v * t + t = omega arith in
        let whole : v * t + (f - v * t) ≡ f = omega arith in
        absurd (off (ap (λ (n : ℕ). n / t) (sym whole) ∙ div-mul-add v t (f - v * t) (omega arith)))

-- the first front that is at least first, where it is before end, is the least of the range
pub least_within : (fs : List ℕ) (first end k : ℕ) → k ≡ position_or_len (λ y. nat_le first y) fs → k < length fs → get_or fs k 0 < end
    → Some (get_or fs k 0) ≡ find (λ f. nat_le first f && nat_lt f end) fs
least_within fs first end k is h lt =
    sym (find_at (λ f. nat_le first f && nat_lt f end) fs
    ∙ ap (slice_get fs) (position_or_len_is (λ f. nat_le first f && nat_lt f end) fs k 0 (omega arith)
    (λ i less. and_left (nat_le first (get_or fs i 0)) (nat_lt (get_or fs i 0) end) (lt-leb first (get_or fs i 0) (less_before fs first i (subst (λ (m : ℕ). i < m) is less))))
    (λ room. and_from (nat_le first (get_or fs k 0)) (nat_lt (get_or fs k 0) end) (le-leb first (get_or fs k 0) (not_less_at fs first k is h)) (lt-ltb (get_or fs k 0) end lt)))
    ∙ read fs k h)
  where
    read : (xs : List ℕ) (k : ℕ) → k < length xs → slice_get xs k ≡ Some (get_or xs k 0)
    read xs k h = slice_get_read xs (length xs) k (get_or xs k 0) refl h (same xs k h)
      where
        same : (xs : List ℕ) (k : ℕ) → k < length xs → get_or xs k 0 ≡ get_or xs k (get_or xs k 0)
        same [] k h = absurd (omega arith)
        same (x ∷ xs) zero h = refl
        same (x ∷ xs) (suc k) h = same xs k (omega arith)

-- otherwise the range has none
pub none_within : (fs : List ℕ) (first end k : ℕ) → IsStrictlyIncreasing fs → k ≡ position_or_len (λ y. nat_le first y) fs → (k < length fs → end ≤ get_or fs k 0)
    → None ≡ find (λ f. nat_le first f && nat_lt f end) fs
none_within fs first end k up is past =
    by_find (find (λ f. nat_le first f && nat_lt f end) fs) (find_any (λ f. nat_le first f && nat_lt f end) fs ∙ none)
  where
    by_find : (r : Option ℕ) → is_some r ≡ false → None ≡ r
    by_find None e = refl
    by_find (Some x) e = cc

    each : (i : ℕ) → i < length fs → (nat_le first (get_or fs i 0) && nat_lt (get_or fs i 0) end) ≡ false
    each i h = elim (cases_lt i k) [
      | inl less ↦ and_left (nat_le first (get_or fs i 0)) (nat_lt (get_or fs i 0) end) (lt-leb first (get_or fs i 0) (less_before fs first i (subst (λ (m : ℕ). i < m) is less)))
      | inr ge ↦ and_right (nat_le first (get_or fs i 0)) (nat_lt (get_or fs i 0) end)
          (le-ltb (get_or fs i 0) end (le_trans (past (omega arith)) (never_less fs up k i ge h)))
    ]
      where
        le_trans : {a b c : ℕ} → a ≤ b → b ≤ c → a ≤ c
        le_trans h k = omega arith

    none : list_any (λ f. nat_le first f && nat_lt f end) fs ≡ false
    none = never (λ f. nat_le first f && nat_lt f end) fs each
      where
        never : (p : ℕ → Bool) (xs : List ℕ) → ((i : ℕ) → i < length xs → p (get_or xs i 0) ≡ false) → list_any p xs ≡ false
        never p [] h = refl
        never p (x ∷ xs) h = rw (h 0 (omega arith), never p xs (λ i lt. h (suc i) (omega arith))) refl

-- an item that passes, and that no item of the list before it in order passes
pub record IsLeast (fs : List ℕ) (p : ℕ → Bool) (f : ℕ) : Type 0 where
  pub passes : p f ≡ true
  pub first : (q : ℕ → Bool) → list_any q fs ≡ true → ((g : ℕ) → q g ≡ true → (p g ≡ true) × (g < f)) → ⊥
  pub among : (q : ℕ → Bool) → q f ≡ true → list_any q fs ≡ true

behind : (x : ℕ) (xs : List ℕ) (p q : ℕ → Bool) (f : ℕ) → IsStrictlyIncreasing (x ∷ xs) → x ≡ f → list_any q (x ∷ xs) ≡ true → ((g : ℕ) → q g ≡ true → (p g ≡ true) × (g < f)) → ⊥
behind x xs p q f up s h less =
    let some = Any-from_list_any q (x ∷ xs) h in
    let early = (less some.1 some.4).1 in
    let late : get_or (x ∷ xs) 0 0 ≤ get_or (x ∷ xs) some.0 0 = never_less (x ∷ xs) up 0 some.0 (omega arith) some.2 in
    let item : get_or (x ∷ xs) some.0 0 ≡ some.1 = get_or_default (x ∷ xs) some.0 0 some.1 some.2 ∙ some.3 in
    omega arith

not_first : (x : ℕ) (xs : List ℕ) (p q : ℕ → Bool) (f : ℕ) (b : Bool) → p x ≡ false → q x ≡ b → (b || list_any q xs) ≡ true → ((g : ℕ) → q g ≡ true → (p g ≡ true) × (g < f)) → list_any q xs ≡ true
not_first x xs p q f false t s h less = h
not_first x xs p q f true t s h less = absurd (let bad : false ≡ true = sym t ∙ (less x s).0 in cc)

least_step : (x : ℕ) (xs : List ℕ) (p : ℕ → Bool) (f : ℕ) (b : Bool) → IsStrictlyIncreasing (x ∷ xs) → p x ≡ b → cond b (Some x) (find p xs) ≡ Some f → (find p xs ≡ Some f → IsLeast xs p f) → IsLeast (x ∷ xs) p f
least_step x xs p f true up t e rest =
    let s : x ≡ f = cc in
    record { passes = ap p (sym s) ∙ t; first = λ q h less. behind x xs p q f up s h less; among = λ q h. ap (λ (a : Bool). a || list_any q xs) (ap q s ∙ h) }
least_step x xs p f false up t e rest =
    let r = rest e in
    record { passes = r.passes; first = λ q h less. r.first q (not_first x xs p q f (q x) t refl h less) less; among = λ q h. or_right (q x) (list_any q xs) (r.among q h) }

increasing_rest : (x : ℕ) (xs : List ℕ) → IsStrictlyIncreasing (x ∷ xs) → IsStrictlyIncreasing xs
increasing_rest x xs up k h = let e : suc k + 1 ≡ suc (k + 1) = omega arith in rw e at (up (suc k) (omega arith))

-- what was found is the least of its range
pub found_least : (fs : List ℕ) (p : ℕ → Bool) (f : ℕ) → IsStrictlyIncreasing fs → find p fs ≡ Some f → IsLeast fs p f
found_least [] p f up e = absurd (cc)
found_least (x ∷ xs) p f up e = least_step x xs p f (p x) up refl e (λ k. found_least xs p f (increasing_rest x xs up) k)
