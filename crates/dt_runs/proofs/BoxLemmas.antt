-- The numbers of a box, row by row.
use Rattle.std.proofs.Common.{◌≡◌, ℕ, zero, suc, ◌+◌, ◌-◌, ◌*◌, ◌<◌, ◌≤◌, List, [], ◌∷◌, ◌++◌, length, get_or, take, drop, map, refl, ap, ◌∙◌, sym, arith, subst, Bool, true, false, ◌||◌, nat_le, inl, inr, Option, Some, None}
use Rattle.std.specs.List.{flat_map, filter_map, cons_option, All}
use Rattle.std.specs.Option.{option_map}
use Rattle.std.proofs.lemmas.Bool.Decides.{leb_tells}
use Rattle.std.proofs.lemmas.Bool.{lt-ltb, leb-false, or_parts}
use Rattle.std.proofs.lemmas.List.{append-nil, flat_map_more}
use Rattle.std.proofs.lemmas.List.Elements.{filter_map-append, All-weaker, All-append}
use Rattle.std.proofs.Math.Nat.{mul-le-mul_left}
use Rattle.std.proofs.Math.Seq.{take-length}
use Rattle.dt_base.specs.Rows.{product, row_major}
use Rattle.dt_runs.specs.Boxes.{AreCorners, box_numbers, coords_between, has_empty_side}
use Rattle.dt_runs.specs.Intervals.{ascending, range}
use Rattle.dt_runs.proofs.RangeLemmas.{range-one, range-append, All-range}

-- a list without its first element, as the slice from 1 on has it
abbrev pub tail : List ℕ → List ℕ
tail xs = take (length xs - 1) (drop 1 xs)

tail-cons : (x : ℕ) (xs : List ℕ) → tail (x ∷ xs) ≡ xs
tail-cons x xs = let count : length (x ∷ xs) - 1 ≡ length xs = omega arith in rw count (take-length xs)

pub length-tail : (xs : List ℕ) → 0 < length xs → length (tail xs) < length xs
length-tail [] some = absurd (omega arith)
length-tail (x ∷ xs) some = rw (tail-cons x xs) (omega arith)

-- the numbers of a box inside a larger one, whose outer coordinates have the row-major number `outer`
abbrev pub inner_box : ℕ → List ℕ → List ℕ → List ℕ → List ℕ
inner_box outer ns los his = map (λ k. outer * product ns + k) (box_numbers ns los his)

-- more coordinates in front of the same index
row_major-front : (n x : ℕ) (ns : List ℕ) (cs : List (List ℕ)) → x < n
    → filter_map (row_major (n ∷ ns)) (map (λ c. x ∷ c) cs) ≡ map (λ k. x * product ns + k) (filter_map (row_major ns) cs)
row_major-front n x ns [] lt = refl
row_major-front n x ns (c ∷ cs) lt =
    let rest = row_major-front n x ns cs lt in
    rw (lt-ltb x n lt, rest) (front (row_major ns c) (filter_map (row_major ns) cs))
  where
    front : (found : Option ℕ) (ks : List ℕ)
        → cons_option (option_map (λ k. x * product ns + k) found) (map (λ k. x * product ns + k) ks) ≡ map (λ k. x * product ns + k) (cons_option found ks)
    front None ks = refl
    front (Some k) ks = refl

map-append : {A B : Type 0} (f : A → B) (xs ys : List A) → map f (xs ++ ys) ≡ map f xs ++ map f ys
map-append f [] ys = refl
map-append f (x ∷ xs) ys = ap (λ zs. f x ∷ zs) (map-append f xs ys)

-- the row-major number by Horner's rule
horner : (outer n x size : ℕ) (ks : List ℕ) → map (λ k. outer * (n * size) + k) (map (λ k. x * size + k) ks) ≡ map (λ k. (outer * n + x) * size + k) ks
horner outer n x size [] = refl
horner outer n x size (k ∷ ks) =
    let first : outer * (n * size) + (x * size + k) ≡ (outer * n + x) * size + k = omega arith in
    ap (λ z. z ∷ map (λ k. outer * (n * size) + k) (map (λ k. x * size + k) ks)) first
    ∙ ap (λ zs. ((outer * n + x) * size + k) ∷ zs) (horner outer n x size ks)

pub inner_box-ascending : (outer n a m : ℕ) (ns los his : List ℕ) → a + m ≤ n
    → map (λ k. outer * (n * product ns) + k) (filter_map (row_major (n ∷ ns)) (flat_map (λ i. map (λ c. i ∷ c) (coords_between los his)) (ascending a m)))
    ≡ flat_map (λ x. inner_box (outer * n + x) ns los his) (ascending a m)
inner_box-ascending outer n a zero ns los his le = refl
inner_box-ascending outer n a (suc m) ns los his le =
    let cs = coords_between los his in
    let rest = flat_map (λ i. map (λ c. i ∷ c) cs) (ascending (suc a) m) in
    let add : ℕ → ℕ = λ k. outer * (n * product ns) + k in
    ap (λ xs. map add xs) (filter_map-append (row_major (n ∷ ns)) (map (λ c. a ∷ c) cs) rest)
    ∙ map-append add (filter_map (row_major (n ∷ ns)) (map (λ c. a ∷ c) cs)) (filter_map (row_major (n ∷ ns)) rest)
    ∙ ap (λ xs. map add xs ++ map add (filter_map (row_major (n ∷ ns)) rest)) (row_major-front n a ns cs (omega arith))
    ∙ ap (λ xs. xs ++ map add (filter_map (row_major (n ∷ ns)) rest)) (horner outer n a (product ns) (filter_map (row_major ns) cs))
    ∙ ap (λ xs. inner_box (outer * n + a) ns los his ++ xs) (inner_box-ascending outer n (suc a) m ns los his (omega arith))

-- a box is its slices along the first side
pub inner_box-slices : (outer : ℕ) (ns los his : List ℕ) → AreCorners ns los his → 0 < length ns
    → inner_box outer ns los his
    ≡ flat_map (λ x. inner_box (outer * get_or ns 0 0 + x) (tail ns) (tail los) (tail his)) (range (get_or los 0 0) (get_or his 0 0))
inner_box-slices outer [] los his corners some = absurd (omega arith)
inner_box-slices outer (n ∷ ns) [] his corners some = absurd corners
inner_box-slices outer (n ∷ ns) (l ∷ ls) [] corners some = absurd corners
inner_box-slices outer (n ∷ ns) (l ∷ ls) (h ∷ hs) corners some =
    rw (tail-cons n ns, tail-cons l ls, tail-cons h hs) (inner_box-ascending outer n l (h - l) ns ls hs (omega arith))

-- a box with no sides is one number
pub inner_box-point : (outer : ℕ) (ns los his : List ℕ) → AreCorners ns los his → length ns ≡ 0 → inner_box outer ns los his ≡ range outer (outer + 1)
inner_box-point outer [] [] [] corners none =
    let first : outer * 1 + 0 ≡ outer = omega arith in
    ap (λ k. k ∷ []) first ∙ sym (range-one outer)
inner_box-point outer [] [] (h ∷ hs) corners none = absurd corners
inner_box-point outer [] (l ∷ ls) his corners none = absurd corners
inner_box-point outer (n ∷ ns) los his corners none = absurd (omega arith)

flat_map-points : (c a m : ℕ) → flat_map (λ x. inner_box (c + x) [] [] []) (ascending a m) ≡ ascending (c + a) m
flat_map-points c a zero = refl
flat_map-points c a (suc m) =
    let first : (c + a) * 1 + 0 ≡ c + a = omega arith in
    let next : c + suc a ≡ suc (c + a) = omega arith in
    ap (λ k. k ∷ flat_map (λ x. inner_box (c + x) [] [] []) (ascending (suc a) m)) first
    ∙ ap (λ ks. (c + a) ∷ ks) (flat_map-points c (suc a) m ∙ ap (λ b. ascending b m) next)

-- a box with one side is one row
pub inner_box-row : (outer : ℕ) (ns los his : List ℕ) → AreCorners ns los his → length ns ≡ 1
    → inner_box outer ns los his ≡ range (outer * get_or ns 0 0 + get_or los 0 0) (outer * get_or ns 0 0 + get_or his 0 0)
inner_box-row outer [] los his corners one = absurd (omega arith)
inner_box-row outer (n ∷ m ∷ ns) los his corners one = absurd (omega arith)
inner_box-row outer (n ∷ []) [] his corners one = absurd corners
inner_box-row outer (n ∷ []) (l ∷ ls) [] corners one = absurd corners
inner_box-row outer (n ∷ []) (l ∷ []) (h ∷ []) corners one =
    let size : h - l ≡ (outer * n + h) - (outer * n + l) = omega arith in
    inner_box-ascending outer n l (h - l) [] [] [] (omega arith) ∙ flat_map-points (outer * n) l (h - l) ∙ ap (λ m. ascending (outer * n + l) m) size
inner_box-row outer (n ∷ []) (l ∷ []) (h ∷ k ∷ ks) corners one = absurd corners.2
inner_box-row outer (n ∷ []) (l ∷ m ∷ ls) (h ∷ hs) corners one = absurd corners.2

-- where no side is empty, no extent is 0
positive_product : (ns los his : List ℕ) → AreCorners ns los his → has_empty_side los his ≡ false → 1 ≤ product ns
positive_product [] los his corners filled = omega arith
positive_product (n ∷ ns) [] his corners filled = absurd corners
positive_product (n ∷ ns) (l ∷ ls) [] corners filled = absurd corners
positive_product (n ∷ ns) (l ∷ ls) (h ∷ hs) corners filled =
    let both = or_parts (nat_le h l) (has_empty_side ls hs) filled in
    let side : l < h = leb-false h l both.0 in
    let rest : 1 ≤ product ns = positive_product ns ls hs corners.2 both.1 in
    omega (arith, mul-le-mul_left n rest)

-- the first side of a box with no empty side, and what is left without it
pub record HasFirstSide (ns los his : List ℕ) : Type 0 where
  pub filled : get_or los 0 0 < get_or his 0 0
  pub inside : get_or his 0 0 ≤ get_or ns 0 0
  pub rest : AreCorners (tail ns) (tail los) (tail his)
  pub rest_filled : has_empty_side (tail los) (tail his) ≡ false
  pub size : product ns ≡ get_or ns 0 0 * product (tail ns)
  pub positive : 1 ≤ product (tail ns)

pub first_side : (ns los his : List ℕ) → AreCorners ns los his → has_empty_side los his ≡ false → 0 < length ns → HasFirstSide ns los his
first_side [] los his corners filled some = absurd (omega arith)
first_side (n ∷ ns) [] his corners filled some = absurd corners
first_side (n ∷ ns) (l ∷ ls) [] corners filled some = absurd corners
first_side (n ∷ ns) (l ∷ ls) (h ∷ hs) corners filled some =
    let both = or_parts (nat_le h l) (has_empty_side ls hs) filled in
    record {
      filled = leb-false h l both.0;
      inside = corners.1;
      rest = rw (tail-cons n ns, tail-cons l ls, tail-cons h hs) corners.2;
      rest_filled = rw (tail-cons l ls, tail-cons h hs) both.1;
      size = rw (tail-cons n ns) refl;
      positive = rw (tail-cons n ns) (positive_product ns ls hs corners.2 both.1);
    }

-- a slice of a box ends within the box
slice_end-le : (outer n x size : ℕ) → x < n → (outer * n + x + 1) * size ≤ (outer + 1) * (n * size)
slice_end-le outer n x size lt =
    let within : outer * n + x + 1 ≤ (outer + 1) * n = omega arith in
    omega (arith, mul-le-mul_left size within)

-- and begins no earlier than it
slice_start-le : (outer n x size : ℕ) → outer * (n * size) ≤ (outer * n + x) * size
slice_start-le outer n x size =
    let within : outer * n ≤ outer * n + x = omega arith in
    omega (arith, mul-le-mul_left size within)

le-mul : (a size : ℕ) → 1 ≤ size → a ≤ a * size
le-mul a size some = omega (arith, mul-le-mul_left a some)

le-lt-trans : {a b c : ℕ} → a ≤ b → b < c → a < c
le-lt-trans h k = omega arith

lt-le-trans : {a b c : ℕ} → a < b → b ≤ c → a < c
lt-le-trans h k = omega arith

lt-from-suc : {a c : ℕ} → a + 1 < c → a < c
lt-from-suc h = omega arith

-- The outer coordinates stay within the numbers that fit.

pub first_fits : (outer bound : ℕ) (ns los his : List ℕ) → HasFirstSide ns los his → (outer + 1) * product ns < bound → outer * get_or ns 0 0 < bound
first_fits outer bound ns los his side small =
    let n = get_or ns 0 0 in
    let size = product (tail ns) in
    let within = rw side.size at small in
    omega (arith, le-mul (outer * n) size side.positive, slice_start-le outer n 0 size)

pub slice_small : (outer x bound : ℕ) (ns los his : List ℕ) → HasFirstSide ns los his → x < get_or his 0 0 → (outer + 1) * product ns < bound
    → (outer * get_or ns 0 0 + x + 1) * product (tail ns) < bound
slice_small outer x bound ns los his side lt small =
    let inside = side.inside in
    let within = rw side.size at small in
    let ends = slice_end-le outer (get_or ns 0 0) x (product (tail ns)) (omega arith) in
    le-lt-trans ends within

pub slice_fits : (outer x bound : ℕ) (ns los his : List ℕ) → HasFirstSide ns los his → x < get_or his 0 0 → (outer + 1) * product ns < bound
    → outer * get_or ns 0 0 + x < bound
slice_fits outer x bound ns los his side lt small =
    let within = slice_small outer x bound ns los his side lt small in
    let most = le-mul (outer * get_or ns 0 0 + x + 1) (product (tail ns)) side.positive in
    lt-from-suc (le-lt-trans most within)

-- what the list has once the slices below x along the first side have been put behind the old numbers
pub record HasSlices (outer : ℕ) (ns los his old : List ℕ) (x : ℕ) (runs : List ℕ) : Type 0 where
  pub so_far : runs ≡ old ++ flat_map (λ k. inner_box (outer * get_or ns 0 0 + k) (tail ns) (tail los) (tail his)) (range (get_or los 0 0) x)
  pub behind : All (λ y. y < (outer * get_or ns 0 0 + x) * product (tail ns)) runs

pub range-none : (a : ℕ) → range a a ≡ []
range-none a = let none : a - a ≡ 0 = omega arith in rw none refl

pub HasSlices-start : (outer : ℕ) (ns los his old : List ℕ) → HasFirstSide ns los his → All (λ y. y < outer * product ns) old
    → HasSlices outer ns los his old (get_or los 0 0) old
HasSlices-start outer ns los his old side below = record {
  so_far = sym (ap (λ ks. old ++ flat_map (λ k. inner_box (outer * get_or ns 0 0 + k) (tail ns) (tail los) (tail his)) ks) (range-none (get_or los 0 0)) ∙ append-nil old);
  behind = All-weaker (λ y. y < outer * product ns) (λ y. y < (outer * get_or ns 0 0 + get_or los 0 0) * product (tail ns))
      (λ y lt. lt-le-trans (rw side.size at lt) (slice_start-le outer (get_or ns 0 0) (get_or los 0 0) (product (tail ns)))) old below;
}

pub HasSlices-next : (outer : ℕ) (ns los his old : List ℕ) (x : ℕ) (runs more : List ℕ) → HasSlices outer ns los his old x runs → get_or los 0 0 ≤ x
    → more ≡ runs ++ inner_box (outer * get_or ns 0 0 + x) (tail ns) (tail los) (tail his)
    → All (λ y. y < (outer * get_or ns 0 0 + x + 1) * product (tail ns)) more
    → HasSlices outer ns los his old (x + 1) more
HasSlices-next outer ns los his old x runs more h le put below =
    let slice = λ (k : ℕ). inner_box (outer * get_or ns 0 0 + k) (tail ns) (tail los) (tail his) in
    let lo = get_or los 0 0 in
    let next : outer * get_or ns 0 0 + x + 1 ≡ outer * get_or ns 0 0 + (x + 1) = omega arith in
    record {
      so_far = put ∙ ap (λ xs. xs ++ slice x) h.so_far
          ∙ flat_map_more slice old (range lo x) x
          ∙ ap (λ ks. old ++ flat_map slice (range lo x ++ ks)) (sym (range-one x))
          ∙ ap (λ ks. old ++ flat_map slice ks) (range-append lo x (x + 1) le (omega arith));
      behind = subst (λ m. All (λ y. y < m * product (tail ns)) more) next below;
    }

-- at the end the whole box is there
pub HasSlices-all : (outer : ℕ) (ns los his old : List ℕ) (x : ℕ) (runs : List ℕ) → HasSlices outer ns los his old x runs → AreCorners ns los his → 0 < length ns
    → x ≡ get_or his 0 0 → runs ≡ old ++ inner_box outer ns los his
HasSlices-all outer ns los his old x runs h corners some at =
    h.so_far ∙ ap (λ y. old ++ flat_map (λ k. inner_box (outer * get_or ns 0 0 + k) (tail ns) (tail los) (tail his)) (range (get_or los 0 0) y)) at
    ∙ ap (λ ks. old ++ ks) (sym (inner_box-slices outer ns los his corners some))

pub HasSlices-behind : (outer : ℕ) (ns los his old : List ℕ) (x : ℕ) (runs : List ℕ) → HasSlices outer ns los his old x runs → HasFirstSide ns los his
    → x ≡ get_or his 0 0 → All (λ y. y < (outer + 1) * product ns) runs
HasSlices-behind outer ns los his old x runs h side at =
    let n = get_or ns 0 0 in
    let inside = side.inside in
    let within : outer * n + x ≤ (outer + 1) * n = omega arith in
    let ends : (outer * n + x) * product (tail ns) ≤ (outer + 1) * product ns = rw side.size (omega (arith, mul-le-mul_left (product (tail ns)) within)) in
    All-weaker (λ y. y < (outer * n + x) * product (tail ns)) (λ y. y < (outer + 1) * product ns) (λ y lt. lt-le-trans lt ends) runs h.behind

-- one row behind the old numbers
pub row-behind : (outer : ℕ) (ns los his old runs : List ℕ) → HasFirstSide ns los his → length ns ≡ 1 → All (λ y. y < outer * product ns) old
    → runs ≡ old ++ range (outer * get_or ns 0 0 + get_or los 0 0) (outer * get_or ns 0 0 + get_or his 0 0)
    → All (λ y. y < (outer + 1) * product ns) runs
row-behind outer ns los his old runs side one below put =
    let n = get_or ns 0 0 in
    let inside = side.inside in
    let ends : outer * n + get_or his 0 0 ≤ (outer + 1) * product ns = rw side.size (row-end outer n (get_or his 0 0) (product (tail ns)) inside side.positive) in
    let more : outer * product ns ≤ (outer + 1) * product ns = omega arith in
    rw put (All-append (λ y. y < (outer + 1) * product ns) old (range (outer * n + get_or los 0 0) (outer * n + get_or his 0 0))
    (All-weaker (λ y. y < outer * product ns) (λ y. y < (outer + 1) * product ns) (λ y lt. lt-le-trans lt more) old below)
    (All-range (outer * n + get_or los 0 0) (outer * n + get_or his 0 0) ((outer + 1) * product ns) ends))
  where
    row-end : (outer n h size : ℕ) → h ≤ n → 1 ≤ size → outer * n + h ≤ (outer + 1) * (n * size)
    row-end outer n h size le some =
        let within : outer * n + h ≤ (outer + 1) * n = omega arith in
        omega (arith, mul-le-mul_left ((outer + 1) * n) some)

flat_map-nothing : (ks : List ℕ) → flat_map {X = ℕ} {A = List ℕ} (λ k. []) ks ≡ []
flat_map-nothing [] = refl
flat_map-nothing (k ∷ ks) = flat_map-nothing ks

coords_between-empty : (los his : List ℕ) → has_empty_side los his ≡ true → coords_between los his ≡ []
coords_between-empty [] his empty = absurd (cc)
coords_between-empty (l ∷ ls) [] empty = refl
coords_between-empty (l ∷ ls) (h ∷ hs) empty = elim (leb_tells h l) [
  | inl e ↦ let none : h - l ≡ 0 = omega arith in rw none refl
  | inr e ↦
      let rest : coords_between ls hs ≡ [] = coords_between-empty ls hs (rw e.0 at empty) in
      rw rest (flat_map-nothing (range l h))
]

-- a box with an empty side has no number
pub box_numbers-empty : (ns los his : List ℕ) → has_empty_side los his ≡ true → box_numbers ns los his ≡ []
box_numbers-empty ns los his empty = ap (λ cs. filter_map (row_major ns) cs) (coords_between-empty los his empty)

map-zero : (size : ℕ) (ks : List ℕ) → map (λ k. 0 * size + k) ks ≡ ks
map-zero size [] = refl
map-zero size (k ∷ ks) =
    let first : 0 * size + k ≡ k = omega arith in
    ap (λ z. z ∷ map (λ k. 0 * size + k) ks) first ∙ ap (λ zs. k ∷ zs) (map-zero size ks)

-- a box inside nothing larger
pub inner_box-zero : (ns los his : List ℕ) → inner_box 0 ns los his ≡ box_numbers ns los his
inner_box-zero ns los his = map-zero (product ns) (box_numbers ns los his)
