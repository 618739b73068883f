-- The numbers of the indices behind stored fronts.
use Rattle.std.proofs.Common.{◌≡◌, ℕ, zero, suc, ◌+◌, ◌*◌, ◌/◌, ◌%◌, ◌<◌, ◌≤◌, ◌-◌, ◌==◌, List, [], ◌∷◌, ◌++◌, append_assoc, length, length-append, get_or, get_or-append-add, map, refl, ap, sym, ◌∙◌, subst, arith, Option, Some, None, Bool, true, false, ◌||◌, inl, inr}
use Rattle.std.specs.List.{list_any, position}
use Rattle.std.specs.List.Sorted.{IsStrictlyIncreasing}
use Rattle.std.proofs.lemmas.Bool.{cases_lt, eqb-true}
use Rattle.std.proofs.lemmas.Bool.Decides.{eqb_tells}
use Rattle.std.proofs.lemmas.List.{length-map, get_or-map, get_or_append_left, map-append}
use Rattle.std.proofs.lemmas.List.Folds.{list_any-append}
use Rattle.std.proofs.lemmas.List.Quantifiers.{position-Some}
use Rattle.std.proofs.lemmas.Nat.{mul-add-lt, mul-le, div_below, mod_below, div-add-mod', div-mul-add}
use Rattle.dt_base.specs.Ranges.{below}
use Rattle.dt_base.proofs.Firsts.{position-is, position-none}
use Rattle.dt_base.proofs.Ranges.{length-below, get_or-below}
use Rattle.dt_level.proofs.SearchLemmas.{later_lt, found_at}
use Rattle.dt_runs.specs.Sets.{contains}
use Rattle.dt_runs.proofs.SetLemmas.{Ascends, Ascends-lower, contains-append, ascends_from_strictly_increasing, strictly_increasing_from_ascends}
use Rattle.dt_tensor.specs.Packed.{numbers_behind}

-- the numbers behind one front
abbrev pub block : ℕ → ℕ → List ℕ
block size f = map (λ r. f * size + r) (below size)

length-block : (s f : ℕ) → length (block s f) ≡ s
length-block s f = length-map (below s) (λ r. f * s + r) ∙ length-below s

-- as many numbers behind each front
pub length-behind : (s : ℕ) (fs : List ℕ) → length (numbers_behind s fs) ≡ length fs * s
length-behind s [] = omega arith
length-behind s (f ∷ fs) = length-append (block s f) (numbers_behind s fs) ∙ omega (arith, length-block s f, length-behind s fs)

-- the number r behind the front i
pub behind_at : (s : ℕ) (fs : List ℕ) (i r : ℕ) → i < length fs → r < s → get_or (numbers_behind s fs) (i * s + r) 0 ≡ get_or fs i 0 * s + r
behind_at s [] i r h lt = absurd (omega arith)
behind_at s (f ∷ fs) zero r h lt =
    let room : r < length (block s f) = omega (arith, length-block s f) in
    let same : zero * s + r ≡ r = omega arith in
    ap (λ (k : ℕ). get_or (numbers_behind s (f ∷ fs)) k 0) same
    ∙ get_or_append_left (block s f) (numbers_behind s fs) 0 r room
    ∙ get_or-map (λ r. f * s + r) (below s) r 0 0 (let k : r < length (below s) = omega (arith, length-below s) in k)
    ∙ ap (λ (k : ℕ). f * s + k) (get_or-below s r 0 lt)
behind_at s (f ∷ fs) (suc i) r h lt =
    let later : suc i * s + r ≡ length (block s f) + (i * s + r) = omega (arith, length-block s f) in
    ap (λ (k : ℕ). get_or (numbers_behind s (f ∷ fs)) k 0) later
    ∙ get_or-append-add (block s f) (numbers_behind s fs) (i * s + r) 0
    ∙ behind_at s fs i r (omega arith) lt

-- the number at a place
pub behind_read : (s : ℕ) (fs : List ℕ) (k : ℕ) → 0 < s → k < length (numbers_behind s fs) → (k / s < length fs) × (get_or (numbers_behind s fs) k 0 ≡ get_or fs (k / s) 0 * s + k % s)
behind_read s fs k pos h =
    let room : k / s < length fs = div_below k s (length fs) pos (omega (arith, length-behind s fs)) in
    (room, ap (λ (j : ℕ). get_or (numbers_behind s fs) j 0) (sym (div-add-mod' k s)) ∙ behind_at s fs (k / s) (k % s) room (mod_below k s pos))

-- a test that all numbers behind a front answer alike
any_first : (p : ℕ → Bool) (b : Bool) (g : ℕ → ℕ) (n : ℕ) → ((r : ℕ) → r < n → p (g r) ≡ b) → 0 < n → list_any p (map g (below n)) ≡ b
any_first p b g zero h pos = absurd (omega arith)
any_first p b g (suc zero) h pos = ap (λ (t : Bool). t || false) (h 0 (omega arith)) ∙ last b
  where
    last : (b : Bool) → (b || false) ≡ b
    last true = refl
    last false = refl
any_first p b g (suc (suc n)) h pos =
    ap (λ xs. list_any p xs) (map-append g (below (suc n)) (suc n ∷ []))
    ∙ list_any-append p (map g (below (suc n))) (g (suc n) ∷ [])
    ∙ both (list_any p (map g (below (suc n)))) (p (g (suc n))) b (any_first p b g (suc n) (λ r lt. h r (omega arith)) (omega arith)) (h (suc n) (omega arith))
  where
    both : (x y b : Bool) → x ≡ b → y ≡ b → (x || (y || false)) ≡ b
    both x y true e q = rw e refl
    both x y false e q = rw (e, q) refl

pub any_behind : (p q : ℕ → Bool) (s : ℕ) (fs : List ℕ) → 0 < s → ((f r : ℕ) → r < s → p (f * s + r) ≡ q f) → list_any p (numbers_behind s fs) ≡ list_any q fs
any_behind p q s [] pos h = refl
any_behind p q s (f ∷ fs) pos h =
    list_any-append p (block s f) (numbers_behind s fs)
    ∙ ap (λ (b : Bool). b || list_any p (numbers_behind s fs)) (any_first p (q f) (λ r. f * s + r) s (λ r lt. h f r lt) pos)
    ∙ ap (λ (b : Bool). q f || b) (any_behind p q s fs pos h)

-- a number stands behind the front that is its quotient
contains_map : (g : ℕ → ℕ) (n r : ℕ) → r < n → contains (map g (below n)) (g r) ≡ true
contains_map g zero r h = absurd (omega arith)
contains_map g (suc n) r h =
    ap (λ xs. contains xs (g r)) (map-append g (below n) (n ∷ [])) ∙ contains-append (map g (below n)) (g n ∷ []) (g r)
    ∙ elim (cases_lt r n) [
      | inl less ↦ ap (λ (b : Bool). b || contains (g n ∷ []) (g r)) (contains_map g n r less)
      | inr le ↦ ap (λ (k : ℕ). contains (map g (below n)) (g r) || contains (g k ∷ []) (g r)) (let e : n ≡ r = omega arith in e) ∙ itself (contains (map g (below n)) (g r)) (g r)
    ]
  where
    itself : (b : Bool) (x : ℕ) → (b || ((x == x) || false)) ≡ true
    itself b x = elim (eqb_tells x x) [
      | inl e ↦ ap (λ (t : Bool). b || (t || false)) e.0 ∙ always b
      | inr e ↦ absurd (e.1 refl)
    ]
      where
        always : (b : Bool) → (b || true) ≡ true
        always true = refl
        always false = refl

not_among : (g : ℕ → ℕ) (n x : ℕ) → ((r : ℕ) → r < n → (g r ≡ x → ⊥)) → contains (map g (below n)) x ≡ false
not_among g zero x h = refl
not_among g (suc n) x h =
    ap (λ xs. contains xs x) (map-append g (below n) (n ∷ [])) ∙ contains-append (map g (below n)) (g n ∷ []) x
    ∙ ap (λ (b : Bool). b || contains (g n ∷ []) x) (not_among g n x (λ r lt. h r (omega arith)))
    ∙ elim (eqb_tells (g n) x) [
      | inl e ↦ absurd (h n (omega arith) e.1)
      | inr e ↦ ap (λ (t : Bool). t || false) e.0
    ]

contains-block : (s f x : ℕ) → 0 < s → contains (block s f) x ≡ (f == x / s)
contains-block s f x pos = elim (eqb_tells f (x / s)) [
  | inl e ↦
      ap (contains (block s f)) (sym (div-add-mod' x s) ∙ ap (λ (q : ℕ). q * s + x % s) (sym e.1))
      ∙ contains_map (λ r. f * s + r) s (x % s) (mod_below x s pos) ∙ sym e.0
  | inr e ↦
      not_among (λ r. f * s + r) s x (λ r lt same. e.1 (sym (div-mul-add f s r lt) ∙ ap (λ (n : ℕ). n / s) same)) ∙ sym e.0
]

pub contains-behind : (s : ℕ) (fs : List ℕ) (x : ℕ) → 0 < s → contains (numbers_behind s fs) x ≡ contains fs (x / s)
contains-behind s [] x pos = refl
contains-behind s (f ∷ fs) x pos =
    contains-append (block s f) (numbers_behind s fs) x
    ∙ ap (λ (b : Bool). b || contains (numbers_behind s fs) x) (contains-block s f x pos)
    ∙ ap (λ (b : Bool). (f == x / s) || b) (contains-behind s fs x pos)

-- the numbers behind ascending fronts ascend
ascends_block : (a n : ℕ) (xs : List ℕ) → Ascends (a + n) xs → Ascends a (map (λ r. a + r) (below n) ++ xs)
ascends_block a zero xs h = subst (λ (k : ℕ). Ascends k xs) (let e : a + zero ≡ a = omega arith in e) h
ascends_block a (suc n) xs h =
    subst (Ascends a) (sym (ap (λ (l : List ℕ). l ++ xs) (map-append (λ r. a + r) (below n) (n ∷ [])) ∙ append_assoc (map (λ r. a + r) (below n)) ((a + n) ∷ []) xs))
    (ascends_block a n ((a + n) ∷ xs) (omega arith, subst (λ (k : ℕ). Ascends k xs) (let e : a + suc n ≡ suc (a + n) = omega arith in e) h))

pub Ascends-behind : (s low : ℕ) (fs : List ℕ) → Ascends low fs → Ascends (low * s) (numbers_behind s fs)
Ascends-behind s low [] a = tt
Ascends-behind s low (f ∷ fs) a =
    lower (low * s) (f * s) (numbers_behind s (f ∷ fs)) (mul_le low f s a.0)
    (ascends_block (f * s) s (numbers_behind s fs) (subst (λ (k : ℕ). Ascends k (numbers_behind s fs)) (more f s) (Ascends-behind s (suc f) fs a.1)))
  where
    more : (f s : ℕ) → suc f * s ≡ f * s + s
    more f s = omega arith

    mul_le : (a b s : ℕ) → a ≤ b → a * s ≤ b * s
    mul_le a b s h = mul-le a s b s h (omega arith)

    lower : (low high : ℕ) (xs : List ℕ) → low ≤ high → Ascends high xs → Ascends low xs
    lower low high xs le h = Ascends-lower low high xs le h

pub ascending_behind : (s : ℕ) (fs : List ℕ) → IsStrictlyIncreasing fs → Ascends 0 (numbers_behind s fs)
ascending_behind s fs up =
    subst (λ (k : ℕ). Ascends k (numbers_behind s fs)) (let e : 0 * s ≡ 0 = omega arith in e) (Ascends-behind s 0 fs (ascends_from_strictly_increasing 0 fs (λ h. omega arith) up))

-- an earlier number is less
pub earlier_lt : (xs : List ℕ) (j k : ℕ) → IsStrictlyIncreasing xs → j < k → k < length xs → get_or xs j 0 < get_or xs k 0
earlier_lt xs j k up lt h =
    let e : j + suc (k - j - 1) ≡ k = omega arith in
    subst (λ (m : ℕ). get_or xs j 0 < get_or xs m 0) e (later_lt xs up j (k - j - 1) (omega arith))

-- the place of a number
pub place_behind : (s n i : ℕ) (fs : List ℕ) → 0 < s → IsStrictlyIncreasing fs → position (λ y. y == n / s) fs ≡ Some i → position (λ y. y == n) (numbers_behind s fs) ≡ Some (i * s + n % s)
place_behind s n i fs pos up e =
    let found = position-Some (λ y. y == n / s) fs i 0 e in
    let room : i * s + n % s < length (numbers_behind s fs) = omega (arith, length-behind s fs, mul-add-lt i s (n % s) (length fs) found.0 (mod_below n s pos)) in
    let here : get_or (numbers_behind s fs) (i * s + n % s) 0 ≡ n = behind_at s fs i (n % s) found.0 (mod_below n s pos) ∙ ap (λ (q : ℕ). q * s + n % s) (eqb-true _ _ found.1) ∙ div-add-mod' n s in
    let all : IsStrictlyIncreasing (numbers_behind s fs) = strictly_increasing_from_ascends 0 (numbers_behind s fs) (ascending_behind s fs up) in
    position-is (λ y. y == n) (numbers_behind s fs) (i * s + n % s) 0 room (same (get_or (numbers_behind s fs) (i * s + n % s) 0) n here)
    (λ k lt. apart (get_or (numbers_behind s fs) k 0) n (subst (λ (m : ℕ). get_or (numbers_behind s fs) k 0 < m) here (earlier_lt (numbers_behind s fs) k (i * s + n % s) all lt room)))
  where
    same : (a b : ℕ) → a ≡ b → (a == b) ≡ true
    same a b e = elim (eqb_tells a b) [ inl t ↦ t.0 | inr t ↦ absurd (t.1 e) ]

    apart : (a b : ℕ) → a < b → (a == b) ≡ false
    apart a b lt = elim (eqb_tells a b) [ inl t ↦ absurd (let e : a ≡ b = t.1 in omega arith) | inr t ↦ t.0 ]

pub nowhere_behind : (s n : ℕ) (fs : List ℕ) → 0 < s → IsStrictlyIncreasing fs → position (λ y. y == n / s) fs ≡ None → position (λ y. y == n) (numbers_behind s fs) ≡ None
nowhere_behind s n fs pos up e =
    position-none (λ y. y == n) (numbers_behind s fs) 0 (λ k h. none k (behind_read s fs k pos h))
  where
    none : (k : ℕ) → (k / s < length fs) × (get_or (numbers_behind s fs) k 0 ≡ get_or fs (k / s) 0 * s + k % s) → (get_or (numbers_behind s fs) k 0 == n) ≡ false
    none k at = elim (eqb_tells (get_or (numbers_behind s fs) k 0) n) [
      | inr t ↦ t.0
      | inl t ↦ absurd (
          let quotient : get_or fs (k / s) 0 ≡ n / s = sym (div-mul-add (get_or fs (k / s) 0) s (k % s) (mod_below k s pos)) ∙ ap (λ (m : ℕ). m / s) (sym at.1 ∙ t.1) in
          missing (k / s) at.0 quotient)
    ]
      where
        missing : (j : ℕ) → j < length fs → get_or fs j 0 ≡ n / s → ⊥
        missing j h q =
            let some : ◌≡◌ {A = Option ℕ} None (Some j) = sym e ∙ found_at fs (n / s) j h (λ i lt. subst (λ (m : ℕ). get_or fs i 0 < m) q (earlier_lt fs i j up lt h)) q in
            cc
