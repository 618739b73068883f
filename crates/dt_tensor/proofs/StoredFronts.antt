-- Stored coordinates by the numbers of their fronts.
use Rattle.std.proofs.Common.{◌≡◌, ℕ, zero, suc, ◌+◌, ◌-◌, ◌*◌, ◌/◌, ◌%◌, ◌<◌, ◌≤◌, ◌==◌, List, [], ◌∷◌, ◌++◌, length, get_or, take, drop, map, refl, ap, sym, ◌∙◌, subst, arith, Option, Some, None, option_map, is_some, slice_get, Bool, true, false, cond, ◌&&◌, ◌||◌, nat_le, nat_lt, inl, inr}
use Rattle.std.specs.List.{All, AllByRecursion, find, list_all, list_any, position, position_or_len, zip}
use Rattle.std.specs.List.Sorted.{IsStrictlyIncreasing}
use Rattle.std.specs.Str.{bytes_eq}
use Rattle.std.proofs.Math.Nat.{div-div-eq-div-mul}
use Rattle.std.proofs.lemmas.Bool.{cases_lt, lt-ltb, le-leb, eqb-true}
use Rattle.std.proofs.lemmas.Bool.Decides.{eqb_tells, nat_tests}
use Rattle.std.proofs.lemmas.List.{length-map, drop-drop, length-append}
use Rattle.std.proofs.lemmas.List.Elements.{All-from_get_or, All-get_or, recursion_from_All}
use Rattle.std.proofs.lemmas.Nat.{mul-add-lt, mod_below, div-mul-add, div-add-mod'}
use Rattle.dt_base.specs.Ranges.{assignments}
use Rattle.dt_base.specs.Rows.{product, row_major}
use Rattle.dt_base.proofs.Assignments.{assignment-row_major, row_major-assignment}
use Rattle.dt_base.proofs.Firsts.{position-none, bytes_eq-apart}
use Rattle.dt_base.proofs.Rows.{product-append, product-positive, row_major-below}
use Rattle.dt_model.specs.Positions.{begins, is_front, is_followed, is_stored_prefix, place_in}
use Rattle.dt_tensor.specs.Packed.{depth_of, index_at, levels_with, numbers_behind}
use Rattle.dt_tensor.proofs.BehindFronts.{length-behind, behind_read, any_behind, place_behind, nowhere_behind}
use Rattle.dt_tensor.proofs.Depths.{followed_dense, followed_deep}
use Rattle.dt_tensor.proofs.IndexNumbers.{product_cut, index_eq, begins_by_number}

-- the later extents have an index
pub product-drop-positive : (ns : List ℕ) (k : ℕ) → AllByRecursion (λ n. 1 ≤ n) ns → 0 < product (drop k ns)
product-drop-positive ns zero a = let h = product-positive ns a in omega arith
product-drop-positive [] (suc k) a = omega arith
product-drop-positive (n ∷ ns) (suc k) a = product-drop-positive ns k a.1

-- the numbers behind fronts of the first extents are below the product of all
pub within_behind : (ns : List ℕ) (k : ℕ) (fs : List ℕ) → 0 < product (drop k ns) → All (λ f. f < product (take k ns)) fs
    → All (λ p. p < product ns) (numbers_behind (product (drop k ns)) fs)
within_behind ns k fs pos a = All-from_get_or (λ p. p < product ns) (numbers_behind (product (drop k ns)) fs) 0 (λ i h. each i (behind_read (product (drop k ns)) fs i pos h))
  where
    turned : (a b : ℕ) → a * b ≡ b * a
    turned a b = omega arith

    each : (i : ℕ) → (i / product (drop k ns) < length fs) × (get_or (numbers_behind (product (drop k ns)) fs) i 0 ≡ get_or fs (i / product (drop k ns)) 0 * product (drop k ns) + i % product (drop k ns))
        → get_or (numbers_behind (product (drop k ns)) fs) i 0 < product ns
    each i at =
        subst (λ (p : ℕ). p < product ns) (sym at.1)
        (subst (λ (p : ℕ). get_or fs (i / product (drop k ns)) 0 * product (drop k ns) + i % product (drop k ns) < p) (turned (product (drop k ns)) (product (take k ns)) ∙ sym (product_cut ns k))
        (mul-add-lt (get_or fs (i / product (drop k ns)) 0) (product (drop k ns)) (i % product (drop k ns)) (product (take k ns))
        (All-get_or (λ f. f < product (take k ns)) fs (i / product (drop k ns)) 0 at.0 a) (mod_below i (product (drop k ns)) pos)))

-- tests that agree on the items of a list
any_agree : {A B : Type 0} (P : A → Type 0) (f : A → B) (p : B → Bool) (q : A → Bool) (xs : List A) → AllByRecursion P xs → ((x : A) → P x → p (f x) ≡ q x) → list_any p (map f xs) ≡ list_any q xs
any_agree P f p q [] a h = refl
any_agree P f p q (x ∷ xs) a h = rw (h x a.0, any_agree P f p q xs a.1 h) refl

place_agree : {A B : Type 0} (P : A → Type 0) (f : A → B) (p : B → Bool) (q : A → Bool) (xs : List A) → AllByRecursion P xs → ((x : A) → P x → p (f x) ≡ q x) → position p (map f xs) ≡ position q xs
place_agree P f p q xs a h =
    rw (places P f p q xs a h, length-map xs f) refl
  where
    places : {A B : Type 0} (P : A → Type 0) (f : A → B) (p : B → Bool) (q : A → Bool) (xs : List A) → AllByRecursion P xs → ((x : A) → P x → p (f x) ≡ q x) → position_or_len p (map f xs) ≡ position_or_len q xs
    places P f p q [] a h = refl
    places P f p q (x ∷ xs) a h = rw (h x a.0, places P f p q xs a.1 h) refl

-- the place of an index, by its number
pub place_by_number : (ns ps : List ℕ) (n : ℕ) → All (λ p. p < product ns) ps → n < product ns → position (λ d. bytes_eq d (index_at ns n)) (map (index_at ns) ps) ≡ position (λ p. p == n) ps
place_by_number ns ps n a h =
    place_agree (λ p. p < product ns) (index_at ns) (λ d. bytes_eq d (index_at ns n)) (λ p. p == n) ps (recursion_from_All (λ p. p < product ns) ps a) (λ p lt. index_eq ns p n lt h)

-- what is no index has no place
pub place_outside : (ns ps c : List ℕ) → All (λ p. p < product ns) ps → row_major ns c ≡ None → position (λ d. bytes_eq d c) (map (index_at ns) ps) ≡ None
place_outside ns ps c a none =
    place_agree (λ p. p < product ns) (index_at ns) (λ d. bytes_eq d c) (λ p. false) ps (recursion_from_All (λ p. p < product ns) ps a)
    (λ p lt. bytes_eq-apart (index_at ns p) c (λ e. absurd (let other : ◌≡◌ {A = Option ℕ} None (Some p) = sym none ∙ ap (row_major ns) (sym e) ∙ row_major-assignment ns p lt in cc)))
    ∙ position-none (λ p. false) ps 0 (λ k h. refl)

-- a front begins some stored coordinates where the fronts of its size have its number
pub any_begins : (ns : List ℕ) (k j v : ℕ) (fs : List ℕ) → j ≤ k → j ≤ length ns → AllByRecursion (λ n. 1 ≤ n) ns → All (λ f. f < product (take k ns)) fs → v < product (take j ns)
    → list_any (begins (index_at (take j ns) v)) (map (index_at ns) (numbers_behind (product (drop k ns)) fs)) ≡ list_any (λ f. f / product (take (k - j) (drop j ns)) == v) fs
any_begins ns k j v fs le short each a lt =
    any_agree (λ p. p < product ns) (index_at ns) (begins (index_at (take j ns) v)) (λ p. p / product (drop j ns) == v) (numbers_behind (product (drop k ns)) fs)
    (recursion_from_All (λ p. p < product ns) (numbers_behind (product (drop k ns)) fs) (within_behind ns k fs (product-drop-positive ns k each) a))
    (λ p h. begins_by_number ns j p v short (product-drop-positive ns j each) h lt)
    ∙ any_behind (λ p. p / product (drop j ns) == v) (λ f. f / product (take (k - j) (drop j ns)) == v) (product (drop k ns)) fs (product-drop-positive ns k each)
    (λ f r h. ap (λ (m : ℕ). (f * product (drop k ns) + r) / m == v) (sizes ∙ turned (product (take (k - j) (drop j ns))) (product (drop k ns)))
    ∙ ap (λ (m : ℕ). m == v) (sym (div-div-eq-div-mul (f * product (drop k ns) + r) (product (drop k ns)) (product (take (k - j) (drop j ns)))))
    ∙ ap (λ (m : ℕ). m / product (take (k - j) (drop j ns)) == v) (div-mul-add f (product (drop k ns)) r h))
  where
    turned : (a b : ℕ) → a * b ≡ b * a
    turned a b = omega arith

    sizes : product (drop j ns) ≡ product (take (k - j) (drop j ns)) * product (drop k ns)
    sizes =
        product_cut (drop j ns) (k - j)
        ∙ ap (λ (l : List ℕ). product (take (k - j) (drop j ns)) * product l) (drop-drop (k - j) j ns)
        ∙ ap (λ (m : ℕ). product (take (k - j) (drop j ns)) * product (drop m ns)) (let e : j + (k - j) ≡ k = omega arith in e)

-- coordinates below their extents are a front
pub fronts_test : (c ns : List ℕ) → length c ≤ length ns → list_all (λ p. nat_lt p.0 p.1) (zip c ns) ≡ is_some (row_major (take (length c) ns) c)
fronts_test [] ns h = refl
fronts_test (x ∷ c) [] h = absurd (omega arith)
fronts_test (x ∷ c) (n ∷ ns) h = ap (λ (b : Bool). nat_lt x n && b) (fronts_test c ns (omega arith)) ∙ by_test (nat_lt x n) (row_major (take (length c) ns) c)
  where
    by_test : (b : Bool) (r : Option ℕ) → (b && is_some r) ≡ is_some (cond b (option_map (λ k. x * product (take (length c) ns) + k) r) None)
    by_test true None = refl
    by_test true (Some k) = refl
    by_test false r = refl

pub is_front_test : (ns c : List ℕ) → length c ≤ length ns → is_front ns c ≡ is_some (row_major (take (length c) ns) c)
is_front_test ns c h = ap (λ (b : Bool). b && list_all (λ p. nat_lt p.0 p.1) (zip c ns)) (le-leb (length c) (length ns) h) ∙ fronts_test c ns h

-- one more coordinate of a number
pub row_major-push : (ns c : List ℕ) (n x v : ℕ) → row_major ns c ≡ Some v → x < n → row_major (ns ++ n ∷ []) (c ++ x ∷ []) ≡ Some (v * n + x)
row_major-push [] [] n x v e lt =
    let at : 0 ≡ v = cc in
    rw (lt-ltb x n lt, ← at) (ap Some (let s : x * 1 + 0 ≡ 0 * n + x = omega arith in s))
row_major-push [] (y ∷ c) n x v e lt = cc
row_major-push (m ∷ ns) [] n x v e lt = cc
row_major-push (m ∷ ns) (y ∷ c) n x v e lt = by_test (nat_lt y m) (row_major ns c) refl (λ k q. row_major-push ns c n x k q lt) e
  where
    by_test : (b : Bool) (r : Option ℕ) → row_major ns c ≡ r → ((k : ℕ) → row_major ns c ≡ Some k → row_major (ns ++ n ∷ []) (c ++ x ∷ []) ≡ Some (k * n + x)) → cond b (option_map (λ k. y * product ns + k) r) None ≡ Some v
        → cond b (option_map (λ k. y * product (ns ++ n ∷ []) + k) (row_major (ns ++ n ∷ []) (c ++ x ∷ []))) None ≡ Some (v * n + x)
    by_test false r q more e = cc
    by_test true None q more e = cc
    by_test true (Some k) q more e =
        let at : y * product ns + k ≡ v = cc in
        rw (more k q) (ap Some (ap (λ (p : ℕ). y * p + (k * n + x)) (product-append ns (n ∷ [])) ∙ spread y (product ns) k n x ∙ ap (λ (w : ℕ). w * n + x) at))
      where
        spread : (y p k n x : ℕ) → y * (p * (n * 1)) + (k * n + x) ≡ (y * p + k) * n + x
        spread y p k n x = omega arith

-- a stored prefix with a compressed level, by the numbers of the fronts
pub prefix_deep : (ns : List ℕ) (comp : List Bool) (fs c : List ℕ) (j v : ℕ) → AllByRecursion (λ n. 1 ≤ n) ns → length comp ≡ length ns → All (λ f. f < product (take (depth_of comp) ns)) fs
    → length c ≤ length ns → is_front ns c ≡ true → depth_of (take (length c) comp) ≡ j → 0 < j → j ≤ depth_of comp → row_major (take j ns) (take j c) ≡ Some v
    → is_stored_prefix (levels_with ns comp fs) c ≡ list_any (λ f. f / product (take (depth_of comp - j) (drop j ns)) == v) fs
prefix_deep ns comp fs c j v each levels a short front is pos deep e =
    let coords = map (index_at ns) (numbers_behind (product (drop (depth_of comp) ns)) fs) in
    let f = followed_deep comp coords c j (omega arith) is pos in
    ap (λ (b : Bool). b && is_followed comp coords c) front ∙ f.1
    ∙ ap (λ (d : List ℕ). list_any (begins d) coords) (sym (assignment-row_major (take j ns) (take j c) v e))
    ∙ any_begins ns (depth_of comp) j v fs deep (omega (arith, f.0)) each a (row_major-below (take j ns) (take j c) v e)

-- one without a compressed level
pub prefix_dense : (ns : List ℕ) (comp : List Bool) (fs c : List ℕ) → depth_of (take (length c) comp) ≡ 0 → is_stored_prefix (levels_with ns comp fs) c ≡ is_front ns c
prefix_dense ns comp fs c is =
    let coords = map (index_at ns) (numbers_behind (product (drop (depth_of comp) ns)) fs) in
    ap (λ (b : Bool). is_front ns c && b) (followed_dense comp coords c is) ∙ whole (is_front ns c)
  where
    whole : (b : Bool) → (b && true) ≡ b
    whole true = refl
    whole false = refl
