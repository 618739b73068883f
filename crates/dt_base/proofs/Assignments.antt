-- Assignments by their row-major numbers.
use Rattle.std.proofs.Common.{◌≡◌, ℕ, zero, suc, ◌+◌, ◌*◌, ◌/◌, ◌%◌, ◌<◌, List, [], ◌∷◌, ◌++◌, length, get_or, map, refl, ap, sym, ◌∙◌, arith, append-nil, length-append, Option, Some, None, option_map, Bool, true, false, nat_lt, cond, inl, inr}
use Rattle.std.specs.Str.{bytes_eq}
use Rattle.std.specs.List.{flat_map, position}
use Rattle.std.proofs.lemmas.Bool.{lt-ltb, ltb-true, cases_lt}
use Rattle.std.proofs.lemmas.List.{length-map, get_or-map, get_or_append_left, get_or-append-add}
use Rattle.std.proofs.lemmas.List.Concat.{flat_map-append}
use Rattle.std.proofs.lemmas.Nat.{mul-add-lt, div_below, mod_below}
use Rattle.dt_base.specs.Ranges.{below, assignments}
use Rattle.dt_base.specs.Rows.{product, row_major}
use Rattle.dt_base.proofs.Rows.{row_major-below}
use Rattle.dt_base.proofs.Firsts.{bytes_eq-same, bytes_eq-apart, position-is, position-none}

-- one more row
rows_more : {A : Type 0} (f : ℕ → List A) (n : ℕ) → flat_map f (below (suc n)) ≡ flat_map f (below n) ++ f n
rows_more f n = flat_map-append f (below n) (n ∷ []) ∙ ap (λ zs. flat_map f (below n) ++ zs) (append-nil (f n))

-- rows of one length
length-rows : {A : Type 0} (f : ℕ → List A) (m : ℕ) → ((i : ℕ) → length (f i) ≡ m) → (n : ℕ) → length (flat_map f (below n)) ≡ n * m
length-rows f m h zero = omega arith
length-rows f m h (suc n) =
    ap length (rows_more f n) ∙ length-append (flat_map f (below n)) (f n) ∙ omega (arith, length-rows f m h n, h n)

-- the element j of row i
get_or-rows : {A : Type 0} (f : ℕ → List A) (m : ℕ) → ((i : ℕ) → length (f i) ≡ m) → (n i j : ℕ) (d : A) → i < n → j < m → get_or (flat_map f (below n)) (i * m + j) d ≡ get_or (f i) j d
get_or-rows f m h zero i j d lt in' = absurd (omega arith)
get_or-rows f m h (suc n) i j d lt in' =
    ap (λ zs. get_or zs (i * m + j) d) (rows_more f n) ∙ elim (cases_lt i n) [
      | inl less ↦ earlier f m h n i j d less in' (get_or-rows f m h n i j d less in')
      | inr le ↦ last f m h n i j d (omega arith)
    ]
  where
    earlier : {A : Type 0} (f : ℕ → List A) (m : ℕ) → ((i : ℕ) → length (f i) ≡ m) → (n i j : ℕ) (d : A) → i < n → j < m
        → get_or (flat_map f (below n)) (i * m + j) d ≡ get_or (f i) j d → get_or (flat_map f (below n) ++ f n) (i * m + j) d ≡ get_or (f i) j d
    earlier f m h n i j d less in' e =
        let room : i * m + j < length (flat_map f (below n)) = omega (arith, length-rows f m h n, mul-add-lt i m j n less in') in
        get_or_append_left (flat_map f (below n)) (f n) d (i * m + j) room ∙ e

    last : {A : Type 0} (f : ℕ → List A) (m : ℕ) → ((i : ℕ) → length (f i) ≡ m) → (n i j : ℕ) (d : A) → i ≡ n
        → get_or (flat_map f (below n) ++ f n) (i * m + j) d ≡ get_or (f i) j d
    last f m h n i j d e =
        ap (λ (k : ℕ). get_or (flat_map f (below n) ++ f n) (k * m + j) d) e
        ∙ ap (λ (k : ℕ). get_or (flat_map f (below n) ++ f n) (k + j) d) (sym (length-rows f m h n))
        ∙ get_or-append-add (flat_map f (below n)) (f n) j d
        ∙ ap (λ (k : ℕ). get_or (f k) j d) (sym e)

-- there are as many assignments as the product of the extents
pub length-assignments : (ns : List ℕ) → length (assignments ns) ≡ product ns
length-assignments [] = refl
length-assignments (n ∷ ns) =
    length-rows (λ i. map (λ a. i ∷ a) (assignments ns)) (product ns) (λ i. length-map (assignments ns) (λ a. i ∷ a) ∙ length-assignments ns) n

-- the assignment j of those that begin with x
pub assignments-row : (n : ℕ) (ns : List ℕ) (x j : ℕ) → x < n → j < product ns → get_or (assignments (n ∷ ns)) (x * product ns + j) [] ≡ x ∷ get_or (assignments ns) j []
assignments-row n ns x j h k =
    let room : j < length (assignments ns) = omega (arith, length-assignments ns) in
    get_or-rows (λ i. map (λ a. i ∷ a) (assignments ns)) (product ns) (λ i. length-map (assignments ns) (λ a. i ∷ a) ∙ length-assignments ns) n x j [] h k
    ∙ get_or-map (λ a. x ∷ a) (assignments ns) j [] [] room

-- the first coordinate of a number is its quotient, and the rest are the remainder's
pub assignments-split : (n : ℕ) (ns : List ℕ) (k : ℕ) → k < n * product ns
    → (k / product ns < n) × (k % product ns < product ns) × (get_or (assignments (n ∷ ns)) k [] ≡ (k / product ns) ∷ get_or (assignments ns) (k % product ns) [])
assignments-split n ns k h =
    let some : 0 < product ns = positive n (product ns) k h in
    let quotient : k / product ns < n = div_below k (product ns) n some h in
    let rest : k % product ns < product ns = mod_below k (product ns) some in
    let whole : k ≡ k / product ns * product ns + k % product ns = omega arith in
    (quotient, rest, ap (λ (j : ℕ). get_or (assignments (n ∷ ns)) j []) whole ∙ assignments-row n ns (k / product ns) (k % product ns) quotient rest)
  where
    positive : (n p k : ℕ) → k < n * p → 0 < p
    positive n zero k h = absurd (omega arith)
    positive n (suc p) k h = omega arith

-- the number of an assignment is its place
pub row_major-assignment : (ns : List ℕ) (k : ℕ) → k < product ns → row_major ns (get_or (assignments ns) k []) ≡ Some k
row_major-assignment [] zero h = refl
row_major-assignment [] (suc k) h = absurd (omega arith)
row_major-assignment (n ∷ ns) k h =
    let parts : (k / product ns < n) × (k % product ns < product ns) × (get_or (assignments (n ∷ ns)) k [] ≡ (k / product ns) ∷ get_or (assignments ns) (k % product ns) []) = assignments-split n ns k h in
    ap (λ (c : List ℕ). row_major (n ∷ ns) c) parts.2
    ∙ inner n (product ns) (k / product ns) (k % product ns) k (row_major ns (get_or (assignments ns) (k % product ns) [])) parts.0 (row_major-assignment ns (k % product ns) parts.1) (omega arith)
  where
    inner : (n p x j k : ℕ) (r : Option ℕ) → x < n → r ≡ Some j → x * p + j ≡ k → cond (nat_lt x n) (option_map (λ i. x * p + i) r) None ≡ Some k
    inner n p x j k r h e whole = rw (lt-ltb x n h, e) (ap Some whole)

-- the assignment at the number of these coordinates is the coordinates
pub assignment-row_major : (ns c : List ℕ) (k : ℕ) → row_major ns c ≡ Some k → get_or (assignments ns) k [] ≡ c
assignment-row_major [] [] k e = (let at : 0 ≡ k = cc in rw (← at) refl)
assignment-row_major [] (x ∷ xs) k e = cc
assignment-row_major (n ∷ ns) [] k e = cc
assignment-row_major (n ∷ ns) (x ∷ xs) k e = in_range n ns x xs k (nat_lt x n) (row_major ns xs) refl refl (λ j q. assignment-row_major ns xs j q) e
  where
    found : (n : ℕ) (ns : List ℕ) (x : ℕ) (xs : List ℕ) (k : ℕ) (r : Option ℕ) → row_major ns xs ≡ r → x < n → ((j : ℕ) → row_major ns xs ≡ Some j → get_or (assignments ns) j [] ≡ xs)
        → option_map (λ j. x * product ns + j) r ≡ Some k → get_or (assignments (n ∷ ns)) k [] ≡ x ∷ xs
    found n ns x xs k None q h same e = cc
    found n ns x xs k (Some j) q h same e =
        let at : x * product ns + j ≡ k = cc in
        rw (← at) (assignments-row n ns x j h (row_major-below ns xs j q) ∙ ap (λ (c : List ℕ). x ∷ c) (same j q))

    in_range : (n : ℕ) (ns : List ℕ) (x : ℕ) (xs : List ℕ) (k : ℕ) (b : Bool) (r : Option ℕ) → nat_lt x n ≡ b → row_major ns xs ≡ r → ((j : ℕ) → row_major ns xs ≡ Some j → get_or (assignments ns) j [] ≡ xs)
        → cond b (option_map (λ j. x * product ns + j) (row_major ns xs)) None ≡ Some k → get_or (assignments (n ∷ ns)) k [] ≡ x ∷ xs
    in_range n ns x xs k true r t q same e = found n ns x xs k (row_major ns xs) refl (ltb-true x n t) same e
    in_range n ns x xs k false r t q same e = cc

-- the place of coordinates among all assignments is their row-major number
pub position-assignments : (ns c : List ℕ) → position (λ d. bytes_eq d c) (assignments ns) ≡ row_major ns c
position-assignments ns c = by_number ns c (row_major ns c) refl
  where
    apart : (ns c : List ℕ) (j : ℕ) → j < product ns → (row_major ns c ≡ Some j → ⊥) → bytes_eq (get_or (assignments ns) j []) c ≡ false
    apart ns c j h other = bytes_eq-apart (get_or (assignments ns) j []) c (λ e. other (ap (λ (d : List ℕ). row_major ns d) (sym e) ∙ row_major-assignment ns j h))

    by_number : (ns c : List ℕ) (r : Option ℕ) → row_major ns c ≡ r → position (λ d. bytes_eq d c) (assignments ns) ≡ r
    by_number ns c None e =
        position-none (λ d. bytes_eq d c) (assignments ns) [] (λ j h. apart ns c j (omega (arith, length-assignments ns)) (λ q. absurd (let no : ◌≡◌ {A = Option ℕ} None (Some j) = sym e ∙ q in cc)))
    by_number ns c (Some k) e =
        let room : k < product ns = row_major-below ns c k e in
        position-is (λ d. bytes_eq d c) (assignments ns) k [] (omega (arith, length-assignments ns))
        (ap (λ (d : List ℕ). bytes_eq d c) (assignment-row_major ns c k e) ∙ bytes_eq-same c)
        (λ j h. apart ns c j (omega arith) (λ q. absurd (let same : ◌≡◌ {A = Option ℕ} (Some k) (Some j) = sym e ∙ q in let n : k ≡ j = cc in omega arith)))
