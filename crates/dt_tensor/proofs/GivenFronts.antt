-- The numbers of the entries and of their fronts, and where they stand.
use Rattle.std.proofs.Common.{◌≡◌, ℕ, zero, suc, ◌+◌, ◌-◌, ◌*◌, ◌/◌, ◌<◌, ◌≤◌, ◌==◌, ◌^◌, List, [], ◌∷◌, ◌++◌, append-nil, length, get_or, take, drop, map, refl, ap, ap₂, sym, ◌∙◌, subst, arith, Option, Some, None, IsSome, option_map, is_some, Bool, true, false, cond, ◌||◌, ◌&&◌, Contains, position, filter_map, option_to_list, inl, inr, nat_lt, nat_le}
use Rattle.std.specs.List.{All, AllByRecursion, list_all, list_any, position_or_len}
use Rattle.std.specs.List.Sorted.{IsSorted, IsStrictlyIncreasing}
use Rattle.std.specs.Ordering.{is_lt, nat_cmp}
use Rattle.std.specs.Str.{bytes_eq}
use Rattle.std.proofs.Math.Nat.{div-one}
use Rattle.std.proofs.lemmas.Bool.{cases_lt, eqb-true, and_from, lt-ltb, le-leb}
use Rattle.std.proofs.lemmas.Bool.Decides.{eqb_tells, nat_tests}
use Rattle.std.proofs.lemmas.List.{take_more, take_all, drop_all, length-map, get_or-map}
use Rattle.std.proofs.lemmas.List.Elements.{filter_map-append, All-get_or, All-from_recursion, recursion_from_All}
use Rattle.std.proofs.lemmas.List.Folds.{Any-from_list_any, list_any_at}
use Rattle.std.proofs.lemmas.Nat.{div-add-mod', div_below, le-div}
use Rattle.dt_base.specs.Rows.{product, row_major}
use Rattle.dt_base.proofs.Assignments.{assignment-row_major}
use Rattle.dt_base.proofs.Rows.{row_major-below}
use Rattle.dt_level.proofs.SearchLemmas.{found_at, less_before, not_less_at}
use Rattle.dt_runs.specs.Sets.{contains}
use Rattle.dt_tensor.specs.Packed.{index_at}
use Rattle.dt_tensor.specs.Packing.{numbers_given, fronts_given, AreGiven}
use Rattle.dt_tensor.specs.declared.entry.Given.{Given}
use Rattle.dt_tensor.proofs.BehindFronts.{earlier_lt}
use Rattle.dt_tensor.proofs.IndexNumbers.{product_cut}
use Rattle.dt_tensor.proofs.StoredFronts.{place_by_number}
use Rattle.dt_tensor.proofs.StoredTables.{Distinct}

-- one more entry, by the number that its index has
pub numbers_push : (ns : List ℕ) (entries : List Given) (i : ℕ) (e : Given) (r : Option ℕ) → i < length entries → e ≡ get_or entries i e → row_major ns e.at ≡ r
    → numbers_given ns (take (i + 1) entries) ≡ numbers_given ns (take i entries) ++ option_to_list r
numbers_push ns entries i e r h item q =
    ap (numbers_given ns) (take_more entries i e h ∙ ap (λ (f : Given). take i entries ++ f ∷ []) (sym item))
    ∙ filter_map-append (λ e. row_major ns e.at) (take i entries) (e ∷ [])
    ∙ ap (λ (l : List ℕ). numbers_given ns (take i entries) ++ l) (ap (λ (o : Option ℕ). filter_map (λ (r : Option ℕ). r) (o ∷ [])) q ∙ one r)
  where
    one : (r : Option ℕ) → filter_map (λ (r : Option ℕ). r) (r ∷ []) ≡ option_to_list r
    one None = refl
    one (Some n) = refl

-- the number of an entry is among them
pub given_contains : (ns : List ℕ) (entries : List Given) (i n : ℕ) (e : Given) → i < length entries → e ≡ get_or entries i e → row_major ns e.at ≡ Some n → contains (numbers_given ns entries) n ≡ true
given_contains ns [] i n e h item q = absurd (omega arith)
given_contains ns (x ∷ xs) zero n e h item q =
    let here : row_major ns x.at ≡ Some n = ap (λ (f : Given). row_major ns f.at) (sym item) ∙ q in
    rw here (ap (λ (b : Bool). b || contains (numbers_given ns xs) n) (itself n))
  where
    itself : (n : ℕ) → (n == n) ≡ true
    itself n = elim (eqb_tells n n) [ inl e ↦ e.0 | inr e ↦ absurd (e.1 refl) ]
given_contains ns (x ∷ xs) (suc i) n e h item q = later (row_major ns x.at) refl (given_contains ns xs i n e (omega arith) item q)
  where
    later : (r : Option ℕ) → row_major ns x.at ≡ r → contains (numbers_given ns xs) n ≡ true → contains (numbers_given ns (x ∷ xs)) n ≡ true
    later None s k = rw s k
    later (Some m) s k = rw s (ap (λ (b : Bool). (m == n) || b) k ∙ always (m == n))
      where
        always : (b : Bool) → (b || true) ≡ true
        always true = refl
        always false = refl

-- Which numbers a list has, both ways.
pub contains_from : (xs : List ℕ) (x : ℕ) → Contains xs x → contains xs x ≡ true
contains_from xs x h = list_any_at (λ y. y == x) xs h.0 x h.1 (ap (λ (y : ℕ). y == x) h.2 ∙ same x)
  where
    same : (n : ℕ) → (n == n) ≡ true
    same n = elim (eqb_tells n n) [ inl e ↦ e.0 | inr e ↦ absurd (e.1 refl) ]

pub from_contains : (xs : List ℕ) (x : ℕ) → contains xs x ≡ true → Contains xs x
from_contains xs x h =
    let some = Any-from_list_any (λ y. y == x) xs h in
    let e : some.1 ≡ x = eqb-true some.1 x some.4 in
    subst (λ (y : ℕ). Contains xs y) e (some.0, some.2, some.3)

pub contains_same : (xs ys : List ℕ) (x : ℕ) → (Contains xs x → Contains ys x) → (Contains ys x → Contains xs x) → contains xs x ≡ contains ys x
contains_same xs ys x to from = both (contains xs x) (contains ys x) (λ h. contains_from ys x (to (from_contains xs x h))) (λ h. contains_from xs x (from (from_contains ys x h)))
  where
    both : (a b : Bool) → (a ≡ true → b ≡ true) → (b ≡ true → a ≡ true) → a ≡ b
    both true b f g = sym (f refl)
    both false true f g = absurd (let e = g refl in cc)
    both false false f g = refl

again : (xs : List ℕ) (i d : ℕ) → i < length xs → get_or xs i (get_or xs i d) ≡ get_or xs i d
again [] i d h = absurd (omega arith)
again (x ∷ xs) zero d h = refl
again (x ∷ xs) (suc i) d h = again xs i d (omega arith)

-- a list with the numbers of another keeps what holds of each of them
all_same : (P : ℕ → Type 0) (xs ys : List ℕ) → ((x : ℕ) → contains xs x ≡ contains ys x) → AllByRecursion P ys → All P xs
all_same P xs ys same all i d h =
    let inside : contains xs (get_or xs i d) ≡ true = contains_from xs (get_or xs i d) (i, h, again xs i d h) in
    let c = from_contains ys (get_or xs i d) (sym (same (get_or xs i d)) ∙ inside) in
    subst P c.2 (All-from_recursion P ys all c.0 (get_or xs i d) c.1)

-- the fronts of numbers of indices are below their count
pub fronts_below : (ns : List ℕ) (k : ℕ) (numbers fs : List ℕ) → 0 < product (drop k ns) → All (λ n. n < product ns) numbers → ((f : ℕ) → contains fs f ≡ contains (map (λ n. n / product (drop k ns)) numbers) f)
    → All (λ f. f < product (take k ns)) fs
fronts_below ns k numbers fs pos below same = all_same (λ f. f < product (take k ns)) fs (map (λ n. n / product (drop k ns)) numbers) same (each numbers (recursion_from_All (λ n. n < product ns) numbers below))
  where
    each : (ms : List ℕ) → AllByRecursion (λ n. n < product ns) ms → AllByRecursion (λ f. f < product (take k ns)) (map (λ n. n / product (drop k ns)) ms)
    each [] h = tt
    each (n ∷ ms) h = (div_below n (product (drop k ns)) (product (take k ns)) pos (subst (λ (m : ℕ). n < m) (product_cut ns k) h.0), each ms h.1)

-- lists with the same numbers have the same images of them
pub contains_map : (g : ℕ → ℕ) (xs ys : List ℕ) → ((x : ℕ) → contains xs x ≡ contains ys x) → (f : ℕ) → contains (map g xs) f ≡ contains (map g ys) f
contains_map g xs ys same f = contains_same (map g xs) (map g ys) f (image xs ys same) (image ys xs (λ x. sym (same x)))
  where
    image : (xs ys : List ℕ) → ((x : ℕ) → contains xs x ≡ contains ys x) → Contains (map g xs) f → Contains (map g ys) f
    image xs ys same h =
        let room : h.0 < length xs = omega (arith, h.1, length-map xs g) in
        let inside : contains xs (get_or xs h.0 0) ≡ true = contains_from xs (get_or xs h.0 0) (h.0, room, again xs h.0 0 room) in
        let c = from_contains ys (get_or xs h.0 0) (sym (same (get_or xs h.0 0)) ∙ inside) in
        (c.0, omega (arith, c.1, length-map ys g), get_or-map g ys c.0 (get_or xs h.0 0) f c.1 ∙ ap g c.2 ∙ sym (get_or-map g xs h.0 0 f room) ∙ h.2)

-- numbers that are divided by 1
pub divided_by_one : (xs : List ℕ) → xs ≡ map (λ n. n / 1) xs
divided_by_one [] = refl
divided_by_one (x ∷ xs) = ap₂ (λ (n : ℕ) (ns : List ℕ). n ∷ ns) (sym (div-one x)) (divided_by_one xs)

not_below : (a b : ℕ) → b ≤ a → is_lt (nat_cmp a b) ≡ false
not_below a b h = grind (arith, nat_tests)

-- quotients of ascending numbers don't fall
pub quotients_rise : (numbers : List ℕ) (s : ℕ) → 0 < s → IsStrictlyIncreasing numbers → IsSorted nat_cmp (map (λ n. n / s) numbers)
quotients_rise numbers s pos up k d low h =
    let room : k + 1 < length numbers = omega (arith, length-map numbers (λ n. n / s)) in
    let rise : get_or numbers k 0 < get_or numbers (k + 1) 0 = up k room in
    let whole = div-add-mod' (get_or numbers k 0) s in
    let le : get_or numbers k 0 / s ≤ get_or numbers (k + 1) 0 / s = le-div (get_or numbers k 0 / s) (get_or numbers (k + 1) 0) s pos (omega (arith, whole, rise)) in
    ap₂ (λ (a b : ℕ). is_lt (nat_cmp a b)) (get_or-map (λ n. n / s) numbers (k + 1) 0 d room) (get_or-map (λ n. n / s) numbers k 0 d (omega arith))
    ∙ not_below (get_or numbers (k + 1) 0 / s) (get_or numbers k 0 / s) le

-- different numbers are different indices
pub numbers_distinct : (ns ps : List ℕ) → IsStrictlyIncreasing ps → All (λ p. p < product ns) ps → Distinct (map (index_at ns) ps)
numbers_distinct ns ps up a j h =
    let room : j < length ps = omega (arith, length-map ps (index_at ns)) in
    ap (λ (c : List ℕ). position (λ d. bytes_eq d c) (map (index_at ns) ps)) (get_or-map (index_at ns) ps j 0 [] room)
    ∙ place_by_number ns ps (get_or ps j 0) a (All-get_or (λ p. p < product ns) ps j 0 room a)
    ∙ found_at ps (get_or ps j 0) j room (λ i lt. earlier_lt ps i j up lt room) refl

-- the place of an entry's number is that of its index
pub index_place : (ns ps c : List ℕ) (n k : ℕ) → All (λ p. p < product ns) ps → row_major ns c ≡ Some n → position (λ y. y == n) ps ≡ Some k → position (λ d. bytes_eq d c) (map (index_at ns) ps) ≡ Some k
index_place ns ps c n k a q e =
    ap (λ (d : List ℕ). position (λ b. bytes_eq b d) (map (index_at ns) ps)) (sym (assignment-row_major ns c n q)) ∙ place_by_number ns ps n a (row_major-below ns c n q) ∙ e

-- a number that is among others is the first that is not less
pub among_at : (xs : List ℕ) (x k : ℕ) → IsStrictlyIncreasing xs → contains xs x ≡ true → k ≡ position_or_len (λ y. nat_le x y) xs → position (λ y. y == x) xs ≡ Some k
among_at xs x k up h e =
    let c = from_contains xs x h in
    let item : get_or xs c.0 0 ≡ x = default xs c.0 x c.1 ∙ c.2 in
    let found = found_at xs x c.0 c.1 (λ i lt. subst (λ (m : ℕ). get_or xs i 0 < m) item (earlier_lt xs i c.0 up lt c.1)) item in
    found ∙ ap (λ (j : ℕ). Some j) (same c.0 c.1 item)
  where
    default : (xs : List ℕ) (k d : ℕ) → k < length xs → get_or xs k 0 ≡ get_or xs k d
    default [] k d h = absurd (omega arith)
    default (x ∷ xs) zero d h = refl
    default (x ∷ xs) (suc k) d h = default xs k d (omega arith)

    same : (j : ℕ) → j < length xs → get_or xs j 0 ≡ x → j ≡ k
    same j room item = elim (cases_lt j k) [
      | inl less ↦ absurd (let lt = less_before xs x j (subst (λ (m : ℕ). j < m) e less) in omega arith)
      | inr ge ↦ elim (cases_lt k j) [
        | inl less ↦ absurd (let le = not_less_at xs x k e (omega arith) in let lt = earlier_lt xs k j up less room in omega arith)
        | inr le ↦ omega arith
      ]
    ]

-- the place that was tried first
pub near_at : (xs : List ℕ) (x k : ℕ) → IsStrictlyIncreasing xs → k < length xs → get_or xs k 0 ≡ x → position (λ y. y == x) xs ≡ Some k
near_at xs x k up h item = found_at xs x k h (λ i lt. subst (λ (m : ℕ). get_or xs i 0 < m) item (earlier_lt xs i k up lt h)) item

-- the numbers of entries are below the product of the extents
pub numbers_within : (ns : List ℕ) (entries : List Given) (ps : List ℕ) → AreGiven ns entries ps → All (λ p. p < product ns) ps
numbers_within ns entries ps same = all_same (λ p. p < product ns) ps (numbers_given ns entries) same (each entries)
  where
    each : (entries : List Given) → AllByRecursion (λ p. p < product ns) (numbers_given ns entries)
    each [] = tt
    each (e ∷ es) = by_number (row_major ns e.at) refl (each es)
      where
        by_number : (r : Option ℕ) → row_major ns e.at ≡ r → AllByRecursion (λ p. p < product ns) (numbers_given ns es) → AllByRecursion (λ p. p < product ns) (numbers_given ns (e ∷ es))
        by_number None q rest = rw q rest
        by_number (Some n) q rest = rw q (row_major-below ns e.at n q, rest)
