-- A tensor whose levels are dense: the positions inside sides are the numbers of a box.
use Rattle.std.proofs.Common.{◌≡◌, ℕ, zero, suc, ◌+◌, ◌-◌, ◌*◌, ◌<◌, ◌≤◌, List, [], ◌∷◌, ◌++◌, length, get_or, map, take, refl, ap, sym, ◌∙◌, subst, arith, Bool, true, false, cond, not, ◌&&◌, ◌||◌, nat_le, nat_lt}
use Rattle.std.specs.Prelude.{slice_index}
use Rattle.std.specs.List.{AllByRecursion, count_by, filter, filter_map, flat_map, list_all, list_any}
use Rattle.std.proofs.lemmas.Bool.{and_from, and_left, and_right, le-leb, lt-leb, lt-ltb, le-ltb}
use Rattle.std.proofs.lemmas.List.{append-nil, ext_get_or, get_or-map, length-map}
use Rattle.std.proofs.lemmas.List.Concat.{flat_map-append}
use Rattle.std.proofs.lemmas.List.Elements.{recursion_from_All}
use Rattle.std.proofs.lemmas.List.Sums.{sum_by-cons}
use Rattle.dt_base.specs.Ranges.{assignments, below}
use Rattle.dt_base.specs.Rows.{product, row_major}
use Rattle.dt_model.specs.Positions.{StoredTensor, IsStored, begins, cost_of, is_followed}
use Rattle.dt_runs.specs.Boxes.{AreCorners, box_numbers, coords_between}
use Rattle.dt_runs.specs.Intervals.{ascending, range}
use Rattle.dt_runs.proofs.RangeLemmas.{range-append}
use Rattle.dt_runs.proofs.WholeBoxes.{range-below}
use Rattle.dt_place.specs.Homes.{cut_of, inside_of, lies_in, piece_of, side_of, sides_of, whole_side, cuts}
use Rattle.dt_place.specs.Blocks.{block_size}
use Rattle.dt_place.specs.declared.placements.Symbol.{Symbol}
use Rattle.dt_place.specs.declared.sides.Side.{Side}
use Rattle.dt_base.proofs.Filters.{filter-always, filter-flat_map, filter-map, list_all-always, mapped-cond}
use Rattle.dt_base.proofs.Assignments.{length-assignments, row_major-assignment}
use Rattle.dt_base.proofs.Ranges.{get_or-below, length-below}
use Rattle.dt_runs.proofs.BelowSets.{filter_below-small}
use Rattle.std.proofs.lemmas.Nat.{mul-le}

-- the first coordinates of sides, and the ends
abbrev pub lows : List Side → List ℕ
lows sides = map (λ s. s.from) sides

abbrev pub highs : List Side → List ℕ
highs sides = map (λ s. s.to) sides

-- ---- a box is what lies in its sides

-- whether a coordinate lies in a side
abbrev lies : Side → ℕ → Bool
lies s i = nat_le s.from i && nat_lt i s.to

row-inside : (s : Side) (ss : List Side) (i : ℕ) (cs : List (List ℕ)) → lies s i ≡ true → filter (lies_in (s ∷ ss)) (map (λ a. i ∷ a) cs) ≡ map (λ a. i ∷ a) (filter (lies_in ss) cs)
row-inside s ss i [] h = refl
row-inside s ss i (c ∷ cs) h =
    let here : lies_in (s ∷ ss) (i ∷ c) ≡ lies_in ss c = ap (λ (b : Bool). b && lies_in ss c) h in
    ap (λ (b : Bool). cond b ((i ∷ c) ∷ filter (lies_in (s ∷ ss)) (map (λ a. i ∷ a) cs)) (filter (lies_in (s ∷ ss)) (map (λ a. i ∷ a) cs))) here
    ∙ ap (λ (l : List (List ℕ)). cond (lies_in ss c) ((i ∷ c) ∷ l) l) (row-inside s ss i cs h)
    ∙ mapped-cond (λ a. i ∷ a) (lies_in ss c) c (filter (lies_in ss) cs)

row-outside : (s : Side) (ss : List Side) (i : ℕ) (cs : List (List ℕ)) → lies s i ≡ false → filter (lies_in (s ∷ ss)) (map (λ a. i ∷ a) cs) ≡ []
row-outside s ss i [] h = refl
row-outside s ss i (c ∷ cs) h =
    let here : lies_in (s ∷ ss) (i ∷ c) ≡ false = and_left (lies s i) (lies_in ss c) h in
    ap (λ (b : Bool). cond b ((i ∷ c) ∷ filter (lies_in (s ∷ ss)) (map (λ a. i ∷ a) cs)) (filter (lies_in (s ∷ ss)) (map (λ a. i ∷ a) cs))) here
    ∙ row-outside s ss i cs h

flat-none : {X : Type 0} (f : ℕ → List X) (a n : ℕ) → ((i : ℕ) → a ≤ i → i < a + n → f i ≡ []) → flat_map f (ascending a n) ≡ []
flat-none f a zero h = refl
flat-none f a (suc n) h = ap (λ l. l ++ flat_map f (ascending (suc a) n)) (h a (omega arith) (omega arith)) ∙ flat-none f (suc a) n (λ i l r. h i (omega arith) (omega arith))

flat-same : {X : Type 0} (f g : ℕ → List X) (a n : ℕ) → ((i : ℕ) → a ≤ i → i < a + n → f i ≡ g i) → flat_map f (ascending a n) ≡ flat_map g (ascending a n)
flat-same f g a zero h = refl
flat-same f g a (suc n) h =
    ap (λ l. l ++ flat_map f (ascending (suc a) n)) (h a (omega arith) (omega arith))
    ∙ ap (λ l. g a ++ l) (flat-same f g (suc a) n (λ i l r. h i (omega arith) (omega arith)))

-- rows that are empty but for some
flat-between : {X : Type 0} (f g : ℕ → List X) (lo hi n : ℕ) → lo ≤ hi → hi ≤ n → ((i : ℕ) → lo ≤ i → i < hi → f i ≡ g i) → ((i : ℕ) → i < lo → f i ≡ []) → ((i : ℕ) → hi ≤ i → f i ≡ [])
    → flat_map f (below n) ≡ flat_map g (range lo hi)
flat-between {X} f g lo hi n h k same before behind =
    let first : 0 ≤ lo = omega arith in
    let start : 0 ≤ hi = omega arith in
    let parts : below n ≡ (range 0 lo ++ range lo hi) ++ range hi n = sym (range-below n) ∙ sym (range-append 0 hi n start k) ∙ ap (λ (l : List ℕ). l ++ range hi n) (sym (range-append 0 lo hi first h)) in
    ap (λ (l : List ℕ). flat_map f l) parts
    ∙ flat_map-append f (range 0 lo ++ range lo hi) (range hi n)
    ∙ ap (λ (l : List X). l ++ flat_map f (range hi n)) (flat_map-append f (range 0 lo) (range lo hi))
    ∙ ap (λ (l : List X). (l ++ flat_map f (range lo hi)) ++ flat_map f (range hi n)) (flat-none f 0 (lo - 0) (λ i l r. before i (omega arith)))
    ∙ ap (λ (l : List X). flat_map f (range lo hi) ++ l) (flat-none f hi (n - hi) (λ i l r. behind i l))
    ∙ append-nil (flat_map f (range lo hi))
    ∙ flat-same f g lo (hi - lo) (λ i l r. same i l (omega arith))

between-inside : (ns : List ℕ) (ss : List Side) → AreCorners ns (lows ss) (highs ss) → coords_between (lows ss) (highs ss) ≡ filter (lies_in ss) (assignments ns)
between-inside [] [] h = refl
between-inside [] (s ∷ ss) h = absurd h
between-inside (n ∷ ns) [] h = absurd h
between-inside (n ∷ ns) (s ∷ ss) h =
    let row : ℕ → List (List ℕ) = λ i. map (λ a. i ∷ a) (assignments ns) in
    let kept : ℕ → List (List ℕ) = λ i. map (λ a. i ∷ a) (filter (lies_in ss) (assignments ns)) in
    sym (filter-flat_map (lies_in (s ∷ ss)) row (below n)
    ∙ flat-between (λ i. filter (lies_in (s ∷ ss)) (row i)) kept s.from s.to n h.0 h.1
    (λ i l r. row-inside s ss i (assignments ns) (and_from (nat_le s.from i) (nat_lt i s.to) (le-leb s.from i l) (lt-ltb i s.to r)))
    (λ i l. row-outside s ss i (assignments ns) (and_left (nat_le s.from i) (nat_lt i s.to) (lt-leb s.from i l)))
    (λ i r. row-outside s ss i (assignments ns) (and_right (nat_le s.from i) (nat_lt i s.to) (le-ltb i s.to r)))
    ∙ ap (λ (cs : List (List ℕ)). flat_map (λ i. map (λ a. i ∷ a) cs) (range s.from s.to)) (sym (between-inside ns ss h.2)))

-- ---- the numbers of assignments that pass a test

assignments-mapped : (ns : List ℕ) → assignments ns ≡ map (λ k. get_or (assignments ns) k []) (below (product ns))
assignments-mapped ns =
    let numbers : List ℕ = below (product ns) in
    let count : length (map (λ k. get_or (assignments ns) k []) numbers) ≡ length (assignments ns) = length-map numbers (λ k. get_or (assignments ns) k []) ∙ length-below (product ns) ∙ sym (length-assignments ns) in
    ext_get_or [] (assignments ns) (map (λ k. get_or (assignments ns) k []) numbers) (sym count)
    (λ i h. let within : i < product ns = omega (arith, length-assignments ns) in
    sym (get_or-map (λ k. get_or (assignments ns) k []) numbers i 0 [] (omega (arith, length-below (product ns))) ∙ ap (λ (k : ℕ). get_or (assignments ns) k []) (get_or-below (product ns) i 0 within)))

numbers-back : (ns : List ℕ) (ks : List ℕ) → AllByRecursion (λ k. k < product ns) ks → filter_map (row_major ns) (map (λ k. get_or (assignments ns) k []) ks) ≡ ks
numbers-back ns [] h = refl
numbers-back ns (k ∷ ks) h = rw (row_major-assignment ns k h.0) (ap (λ (l : List ℕ). k ∷ l) (numbers-back ns ks h.1))

pub box-inside : (ns : List ℕ) (ss : List Side) → AreCorners ns (lows ss) (highs ss) → box_numbers ns (lows ss) (highs ss) ≡ filter (λ k. lies_in ss (get_or (assignments ns) k [])) (below (product ns))
box-inside ns ss h =
    let p : ℕ → Bool = λ k. lies_in ss (get_or (assignments ns) k []) in
    let kept : List ℕ = filter p (below (product ns)) in
    ap (λ (cs : List (List ℕ)). filter_map (row_major ns) cs) (between-inside ns ss h ∙ ap (λ (cs : List (List ℕ)). filter (lies_in ss) cs) (assignments-mapped ns) ∙ filter-map (lies_in ss) (λ k. get_or (assignments ns) k []) (below (product ns)))
    ∙ numbers-back ns kept (recursion_from_All (λ k. k < product ns) kept (filter_below-small p (product ns) (product ns) (omega arith)))

-- ---- a position costs one word where no level is compressed

no_level : (bs : List Bool) → count_by (λ b. b) bs ≡ 0 → (q : ℕ) → get_or bs q false ≡ false
no_level [] h q = refl
no_level (true ∷ bs) h q = absurd (omega (arith, sum_by-cons (λ b. cond b 1 0) true bs))
no_level (false ∷ bs) h zero = refl
no_level (false ∷ bs) h (suc q) = no_level bs (omega (arith, sum_by-cons (λ b. cond b 1 0) false bs)) q

pub dense-coords : (t : StoredTensor) → IsStored t → cost_of t ≡ 1 → t.coords ≡ assignments t.extents
dense-coords t stored cost =
    let none : count_by (λ b. b) t.compressed ≡ 0 = omega arith in
    stored.stored ∙ filter-always (is_followed t.compressed t.coords) (assignments t.extents)
    (λ c. list_all-always (λ q. not (get_or t.compressed q false) || list_any (begins (take (q + 1) c)) t.coords) (below (length c))
    (λ q. ap (λ (b : Bool). not b || list_any (begins (take (q + 1) c)) t.coords) (no_level t.compressed none q)))

pub dense-inside : (t : StoredTensor) (ss : List Side) → IsStored t → cost_of t ≡ 1 → AreCorners t.extents (lows ss) (highs ss) → box_numbers t.extents (lows ss) (highs ss) ≡ inside_of ss t
dense-inside t ss stored cost h =
    let e : t.coords ≡ assignments t.extents = dense-coords t stored cost in
    box-inside t.extents ss h
    ∙ ap (λ (n : ℕ). filter (λ k. lies_in ss (get_or (assignments t.extents) k [])) (below n)) (sym (length-assignments t.extents))
    ∙ ap (λ (cs : List (List ℕ)). filter (λ k. lies_in ss (get_or cs k [])) (below (length cs))) (sym e)

-- ---- sides are corners

-- a side lies within an extent
pub record Lies (s : Side) (n : ℕ) : Type 0 where
  pub order : s.from ≤ s.to
  pub within : s.to ≤ n

piece-lies : (s : Side) (n p q : ℕ) → Lies s n → Lies (piece_of s p q) n
piece-lies s n p q h =
    let b : ℕ = block_size s.size p in
    let up : q * b ≤ (q + 1) * b = mul-le q b (q + 1) b (omega arith) (omega arith) in
    record { order = omega (arith, up); within = omega (arith, h.within) }

cut-lies : (y : Symbol) (d p q n : ℕ) (s : Side) → Lies s n → Lies (cut_of y d p q s) n
cut-lies y d p q n s h = one_of (cuts y d) (piece_of s p q) s n (piece-lies s n p q h) h
  where
    one_of : (b : Bool) (r s : Side) (n : ℕ) → Lies r n → Lies s n → Lies (cond b r s) n
    one_of true r s n h k = h
    one_of false r s n h k = k

side-lies : (d : ℕ) (ys : List Symbol) (ps qs : List ℕ) (s : Side) (n : ℕ) → Lies s n → Lies (side_of d ys ps qs s) n
side-lies d [] ps qs s n h = h
side-lies d (y ∷ ys) [] qs s n h = h
side-lies d (y ∷ ys) (p ∷ ps) [] s n h = h
side-lies d (y ∷ ys) (p ∷ ps) (q ∷ qs) s n h = side-lies d ys ps qs (cut_of y d p q s) n (cut-lies y d p q n s h)

corners-from : (ns : List ℕ) (ss : List Side) (d : Side) → length ss ≡ length ns → ((k : ℕ) → k < length ns → Lies (get_or ss k d) (get_or ns k 0)) → AreCorners ns (lows ss) (highs ss)
corners-from [] [] d e h = tt
corners-from [] (s ∷ ss) d e h = absurd (omega arith)
corners-from (n ∷ ns) [] d e h = absurd (omega arith)
corners-from (n ∷ ns) (s ∷ ss) d e h =
    let first : Lies s n = h 0 (omega arith) in
    (first.order, first.within, corners-from ns ss d (omega arith) (λ k l. h (suc k) (omega arith)))

-- the sides of a home are corners of its tensor
pub sides-corners : (ns : List ℕ) (ys : List Symbol) (ps qs : List ℕ) → AreCorners ns (lows (sides_of ns ys ps qs)) (highs (sides_of ns ys ps qs))
sides-corners ns ys ps qs =
    let side : ℕ → Side = λ d. side_of d ys ps qs (whole_side (slice_index ns d)) in
    corners-from ns (map side (below (length ns))) (whole_side 0) (length-map (below (length ns)) side ∙ length-below (length ns))
    (λ k h. let at : get_or (map side (below (length ns))) k (whole_side 0) ≡ side k = get_or-map side (below (length ns)) k 0 (whole_side 0) (omega (arith, length-below (length ns))) ∙ ap side (get_or-below (length ns) k 0 h) in
    subst (λ (s : Side). Lies s (get_or ns k 0)) (sym at) (side-lies k ys ps qs (whole_side (get_or ns k 0)) (get_or ns k 0) (record { order = omega arith; within = omega arith })))
