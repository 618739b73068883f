-- Lexicographic order, and that assignments ascend in it.
use Rattle.std.proofs.Common.{◌≡◌, ℕ, zero, suc, ◌-◌, ◌<◌, List, [], ◌∷◌, ◌++◌, length, get_or, map, refl, ap, sym, ◌∙◌, subst, arith, append-nil, length-append, Bool, true, false, ◌&&◌, nat_eq, nat_lt, All, inl, inr}
use Rattle.std.specs.List.{flat_map, AllPairs}
use Rattle.std.proofs.lemmas.Bool.{cases_lt, lt-ltb, le-ltb, ltb-true, eq-eqb, or_left, and_parts, or_cases, eqb-true, ne_eqb}
use Rattle.std.proofs.lemmas.List.{get_or-map, get_or_append_left, get_or-append_right, length-map}
use Rattle.std.proofs.lemmas.List.Concat.{flat_map-append}
use Rattle.std.proofs.lemmas.List.Elements.{All-nil, All-append, All-weaker, All-from_get_or, All-get_or}
use Rattle.dt_base.specs.Ranges.{below, assignments}
use Rattle.dt_model.specs.PositionLaws.{is_before}

-- the same first number decides nothing
is_before-same : (x : ℕ) (xs ys : List ℕ) → is_before (x ∷ xs) (x ∷ ys) ≡ is_before xs ys
is_before-same x xs ys = rw (le-ltb x x (omega arith), eq-eqb x x refl) refl

-- no list comes before itself
pub is_before-itself : (xs : List ℕ) → is_before xs xs ≡ false
is_before-itself [] = refl
is_before-itself (x ∷ xs) = is_before-same x xs xs ∙ is_before-itself xs

-- of two lists at most one comes before the other
pub is_before-turned : (xs ys : List ℕ) → is_before xs ys ≡ true → is_before ys xs ≡ false
is_before-turned xs [] h = cc
is_before-turned [] (y ∷ ys) h = refl
is_before-turned (x ∷ xs) (y ∷ ys) h = elim (or_cases (nat_lt x y) (nat_eq x y && is_before xs ys) h) [
  | inl lt ↦ later x y ys xs (ltb-true x y lt)
  | inr both ↦ same x y xs ys (and_parts (nat_eq x y) (is_before xs ys) both) (λ q. is_before-turned xs ys q)
]
  where
    later : (x y : ℕ) (ys xs : List ℕ) → x < y → is_before (y ∷ ys) (x ∷ xs) ≡ false
    later x y ys xs h = rw (le-ltb y x (omega arith), ne_eqb y x (λ e. absurd (omega arith))) refl

    same : (x y : ℕ) (xs ys : List ℕ) → (nat_eq x y ≡ true) × (is_before xs ys ≡ true) → (is_before xs ys ≡ true → is_before ys xs ≡ false) → is_before (y ∷ ys) (x ∷ xs) ≡ false
    same x y xs ys both turned = (let e : x ≡ y = eqb-true x y both.0 in ap (λ (z : ℕ). is_before (y ∷ ys) (z ∷ xs)) e ∙ is_before-same y ys xs ∙ turned both.1)

-- a list that ascends, before one all of whose elements come after its own
AllPairs-append : {X : Type 0} (R : X → X → Type 0) (xs ys : List X) → AllPairs R xs → AllPairs R ys → ((i j : ℕ) (d : X) → i < length xs → j < length ys → R (get_or xs i d) (get_or ys j d)) → AllPairs R (xs ++ ys)
AllPairs-append R xs ys left right across = λ i j d lt h. elim (cases_lt j (length xs)) [
  | inl j_left ↦ moved R (get_or xs i d) (get_or (xs ++ ys) i d) (get_or xs j d) (get_or (xs ++ ys) j d)
      (get_or_append_left xs ys d i (omega arith)) (get_or_append_left xs ys d j j_left) (left i j d lt j_left)
  | inr j_right ↦ elim (cases_lt i (length xs)) [
    | inl i_left ↦ moved R (get_or xs i d) (get_or (xs ++ ys) i d) (get_or ys (j - length xs) d) (get_or (xs ++ ys) j d)
        (get_or_append_left xs ys d i i_left) (get_or-append_right xs ys (length xs) j d refl j_right) (across i (j - length xs) d i_left (omega (arith, length-append xs ys)))
    | inr i_right ↦ moved R (get_or ys (i - length xs) d) (get_or (xs ++ ys) i d) (get_or ys (j - length xs) d) (get_or (xs ++ ys) j d)
        (get_or-append_right xs ys (length xs) i d refl i_right) (get_or-append_right xs ys (length xs) j d refl j_right) (right (i - length xs) (j - length xs) d (omega arith) (omega (arith, length-append xs ys)))
  ]
]
  where
    moved : {X : Type 0} (R : X → X → Type 0) (a a' b b' : X) → a' ≡ a → b' ≡ b → R a b → R a' b'
    moved R a a' b b' p q r = rw (p, q) r

-- the assignments that begin with i
abbrev row : List (List ℕ) → ℕ → List (List ℕ)
row rest i = map (λ a. i ∷ a) rest

-- the rows below n, and then row n
rows_more : (rest : List (List ℕ)) (n : ℕ) → flat_map (row rest) (below (suc n)) ≡ flat_map (row rest) (below n) ++ row rest n
rows_more rest n = flat_map-append (row rest) (below n) (n ∷ []) ∙ ap (λ zs. flat_map (row rest) (below n) ++ zs) (append-nil (row rest n))

-- whether the first number is below n
abbrev begins_below : ℕ → List ℕ → Bool
begins_below n [] = false
begins_below n (x ∷ xs) = nat_lt x n

begins_more : (n : ℕ) (c : List ℕ) → begins_below n c ≡ true → begins_below (suc n) c ≡ true
begins_more n [] h = h
begins_more n (x ∷ xs) h = (let lt : x < n = ltb-true x n h in lt-ltb x (suc n) (omega arith))

-- the rows below n begin below n
rows_below : (rest : List (List ℕ)) (n : ℕ) → All (λ c. begins_below n c ≡ true) (flat_map (row rest) (below n))
rows_below rest zero = All-nil (λ c. begins_below 0 c ≡ true)
rows_below rest (suc n) =
    subst (λ (cs : List (List ℕ)). All (λ c. begins_below (suc n) c ≡ true) cs) (sym (rows_more rest n))
    (All-append (λ c. begins_below (suc n) c ≡ true) (flat_map (row rest) (below n)) (row rest n)
    (All-weaker (λ c. begins_below n c ≡ true) (λ c. begins_below (suc n) c ≡ true) (begins_more n) (flat_map (row rest) (below n)) (rows_below rest n))
    (All-from_get_or (λ c. begins_below (suc n) c ≡ true) (row rest n) []
    (λ i h. let room : i < length rest = omega (arith, length-map rest (λ a. n ∷ a)) in
    ap (λ (c : List ℕ). begins_below (suc n) c) (get_or-map (λ a. n ∷ a) rest i [] [] room) ∙ lt-ltb n (suc n) (omega arith))))

-- what begins below n comes before what begins with n
before_row : (n : ℕ) (c a : List ℕ) → begins_below n c ≡ true → is_before c (n ∷ a) ≡ true
before_row n [] a h = refl
before_row n (x ∷ xs) a h = or_left (nat_lt x n) (nat_eq x n && is_before xs a) h

-- rows that ascend, one after another
rows_ascend : (rest : List (List ℕ)) → AllPairs (λ c d. is_before c d ≡ true) rest → (n : ℕ) → AllPairs (λ c d. is_before c d ≡ true) (flat_map (row rest) (below n))
rows_ascend rest up zero = λ i j d lt h. absurd (omega arith)
rows_ascend rest up (suc n) =
    subst (λ (cs : List (List ℕ)). AllPairs (λ c d. is_before c d ≡ true) cs) (sym (rows_more rest n))
    (AllPairs-append (λ c d. is_before c d ≡ true) (flat_map (row rest) (below n)) (row rest n) (rows_ascend rest up n) (row_ascends rest up n)
    (λ i j d h k. let room : j < length rest = omega (arith, length-map rest (λ a. n ∷ a)) in
    ap (λ (c : List ℕ). is_before (get_or (flat_map (row rest) (below n)) i d) c) (get_or-map (λ a. n ∷ a) rest j [] d room)
    ∙ before_row n (get_or (flat_map (row rest) (below n)) i d) (get_or rest j []) (All-get_or (λ c. begins_below n c ≡ true) (flat_map (row rest) (below n)) i d h (rows_below rest n))))
  where
    row_ascends : (rest : List (List ℕ)) → AllPairs (λ c d. is_before c d ≡ true) rest → (n : ℕ) → AllPairs (λ c d. is_before c d ≡ true) (row rest n)
    row_ascends rest up n = λ i j d lt h.
        let room : j < length rest = omega (arith, length-map rest (λ a. n ∷ a)) in
        ap (λ (c : List ℕ). is_before c (get_or (row rest n) j d)) (get_or-map (λ a. n ∷ a) rest i [] d (omega arith))
        ∙ ap (λ (c : List ℕ). is_before (n ∷ get_or rest i []) c) (get_or-map (λ a. n ∷ a) rest j [] d room)
        ∙ is_before-same n (get_or rest i []) (get_or rest j []) ∙ up i j [] lt room

-- assignments ascend
pub assignments_ascend : (ns : List ℕ) → AllPairs (λ c d. is_before c d ≡ true) (assignments ns)
assignments_ascend [] = λ i j d lt h. absurd (omega arith)
assignments_ascend (n ∷ ns) = rows_ascend (assignments ns) (assignments_ascend ns) n
