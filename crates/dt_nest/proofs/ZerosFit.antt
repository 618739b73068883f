-- Tensors that fit have the number 0 below every prefix that isn't stored.
use Rattle.std.proofs.Common.{◌≡◌, ℕ, zero, suc, ◌+◌, ◌<◌, ◌≤◌, Bool, true, false, ◌&&◌, ◌||◌, not, List, [], ◌∷◌, ◌++◌, length, take, Option, Some, None, refl, sym, ap, ◌∙◌, subst, arith, filter, map}
use Rattle.std.specs.Prelude.{if◌then◌else◌, nat_le, nat_lt, nat_eq, slice_index_or, position}
use Rattle.std.specs.List.{AllByRecursion, list_all, list_any, zip, flat_map}
use Rattle.std.specs.Str.{bytes_eq}
use Rattle.std.proofs.lemmas.Bool.{and_parts, leb-true, le-leb, lt-ltb}
use Rattle.std.proofs.lemmas.List.{length-append, length-map}
use Rattle.std.proofs.lemmas.List.Quantifiers.{position-Some}
use Rattle.std.proofs.lemmas.Slice.Eq.{bytes_eq-Decides}
use Rattle.dt_base.specs.Ranges.{below, assignments}
use Rattle.dt_model.specs.WholeTensor.{WholeTensor}
use Rattle.dt_model.specs.Positions.{StoredTensor, IsStored, begins, is_front, is_followed, is_stored_prefix, place_in, coords_at, tensor_at}
use Rattle.dt_nest.proofs.Each.{all_map, all_filter, all_get, all_flat, all_made, below_all}
use Rattle.dt_nest.specs.Schedule.{Schedule}
use Rattle.dt_nest.specs.World.{world_of, entries_of, Fits, AreZeros, FittingAreZeros}
use Rattle.dt_nest.proofs.Inside.{length_shapes}

pub take_front : (k : ℕ) (xs ys : List ℕ) → k ≤ length xs → take k (xs ++ ys) ≡ take k xs
take_front zero xs ys h = refl
take_front (suc k) [] ys h = absurd (omega arith)
take_front (suc k) (x ∷ xs) ys h = ap (λ (l : List ℕ). x ∷ l) (take_front k xs ys (omega arith))

pub all_append_parts : (p : ℕ → Bool) (xs ys : List ℕ) → list_all p (xs ++ ys) ≡ true → (list_all p xs ≡ true) × (list_all p ys ≡ true)
all_append_parts p [] ys h = (refl, h)
all_append_parts p (x ∷ xs) ys h =
    let a = and_parts (p x) (list_all p (xs ++ ys)) h in let r = all_append_parts p xs ys a.1 in ((let e = a.0 in let f = r.0 in cc), r.1)

-- what passes below a bound passes below a lesser one
all_less : (p : ℕ → Bool) (n m : ℕ) → list_all p (below (n + m)) ≡ true → list_all p (below n) ≡ true
all_less p n zero h = let e : n + 0 ≡ n = omega arith in ap (λ k. list_all p (below k)) (sym e) ∙ h
all_less p n (suc m) h =
    let e : n + suc m ≡ suc (n + m) = omega arith in
    all_less p n m (all_append_parts p (below (n + m)) ((n + m) ∷ []) (ap (λ k. list_all p (below k)) (sym e) ∙ h)).0

pub all_same : (p q : ℕ → Bool) (k : ℕ) (xs : List ℕ) → AllByRecursion (λ i. i < k) xs → ((i : ℕ) → i < k → p i ≡ q i) → list_all p xs ≡ list_all q xs
all_same p q k [] a h = refl
all_same p q k (x ∷ xs) a h = let e = h x a.0 in let r = all_same p q k xs a.1 h in cc

-- a front of followed coordinates is followed
followed_front : (comp : List Bool) (entries : List (List ℕ)) (front rest : List ℕ) → is_followed comp entries (front ++ rest) ≡ true → is_followed comp entries front ≡ true
followed_front comp entries front rest h =
    all_same _ _ (length front) (below (length front)) (below_all (length front))
    (λ q l. ap (λ (c : List ℕ). not (slice_index_or comp q false) || list_any (begins c) entries) (sym (take_front (q + 1) front rest (omega arith))))
    ∙ all_less (λ q. not (slice_index_or comp q false) || list_any (begins (take (q + 1) (front ++ rest))) entries) (length front) (length rest)
    (ap (λ n. list_all (λ q. not (slice_index_or comp q false) || list_any (begins (take (q + 1) (front ++ rest))) entries) (below n)) (sym (length-append front rest)) ∙ h)

zip_front : (front rest ns : List ℕ) → list_all (λ p. nat_lt p.0 p.1) (zip (front ++ rest) ns) ≡ true → list_all (λ p. nat_lt p.0 p.1) (zip front ns) ≡ true
zip_front [] rest ns h = refl
zip_front (x ∷ front) rest [] h = refl
zip_front (x ∷ front) rest (n ∷ ns) h =
    let a = and_parts (nat_lt x n) (list_all (λ p. nat_lt p.0 p.1) (zip (front ++ rest) ns)) h in
    let r = zip_front front rest ns a.1 in let e = a.0 in cc

front_front : (ns front rest : List ℕ) → is_front ns (front ++ rest) ≡ true → is_front ns front ≡ true
front_front ns front rest h =
    let a = and_parts (nat_le (length (front ++ rest)) (length ns)) (list_all (λ p. nat_lt p.0 p.1) (zip (front ++ rest) ns)) h in
    let l : length front ≤ length ns = (let m = leb-true (length (front ++ rest)) (length ns) a.0 in omega (arith, m, length-append front rest)) in
    let e = le-leb (length front) (length ns) l in let r = zip_front front rest ns a.1 in cc

-- assignments are indices
assignments_front : (ns : List ℕ) → AllByRecursion (λ c. is_front ns c ≡ true) (assignments ns)
assignments_front [] = (refl, tt)
assignments_front (n ∷ ns) =
    all_flat (λ i. i < n) (λ c. is_front (n ∷ ns) c ≡ true) (λ i. map (λ a. i ∷ a) (assignments ns))
    (λ i l. all_made (λ c. is_front ns c ≡ true) (λ c. is_front (n ∷ ns) c ≡ true) (λ a. i ∷ a) (λ a h. more i a l h) (assignments ns) (assignments_front ns))
    (below n) (below_all n)
  where
    more : (i : ℕ) (a : List ℕ) → i < n → is_front ns a ≡ true → is_front (n ∷ ns) (i ∷ a) ≡ true
    more i a l h =
        let p = and_parts (nat_le (length a) (length ns)) (list_all (λ q. nat_lt q.0 q.1) (zip a ns)) h in
        let s : suc (length a) ≤ suc (length ns) = (let m = leb-true (length a) (length ns) p.0 in omega (arith, m)) in
        let b = le-leb (suc (length a)) (suc (length ns)) s in
        let c : nat_lt i n ≡ true = lt-ltb i n l in let d = p.1 in cc

-- the stored coordinates are indices, and followed
coords_stored : (t : StoredTensor) → IsStored t → AllByRecursion (λ c. is_stored_prefix t c ≡ true) t.coords
coords_stored t s =
    subst (AllByRecursion (λ c. is_stored_prefix t c ≡ true)) (sym s.stored) (pick (assignments t.extents) (assignments_front t.extents))
  where
    pick : (xs : List (List ℕ)) → AllByRecursion (λ c. is_front t.extents c ≡ true) xs → AllByRecursion (λ c. is_stored_prefix t c ≡ true) (filter (is_followed t.compressed t.coords) xs)
    pick [] h = tt
    pick (x ∷ xs) h = go (is_followed t.compressed t.coords x) refl (pick xs h.1)
      where
        go : (b : Bool) → is_followed t.compressed t.coords x ≡ b → AllByRecursion (λ c. is_stored_prefix t c ≡ true) (filter (is_followed t.compressed t.coords) xs)
            → AllByRecursion (λ c. is_stored_prefix t c ≡ true) (if b then x ∷ filter (is_followed t.compressed t.coords) xs else filter (is_followed t.compressed t.coords) xs)
        go true e r = ((let f = h.0 in cc), r)
        go false e r = r

-- coordinates below a prefix that isn't stored have no position
pub unplaced : (t : StoredTensor) → IsStored t → (front rest : List ℕ) → is_stored_prefix t front ≡ false → place_in t (front ++ rest) ≡ None
unplaced t s front rest e = go (place_in t (front ++ rest)) refl
  where
    go : (o : Option ℕ) → place_in t (front ++ rest) ≡ o → o ≡ None
    go None p = refl
    go (Some k) p =
        let a = position-Some (λ d. bytes_eq d (front ++ rest)) t.coords k [] p in
        let c : is_stored_prefix t (coords_at t k) ≡ true = all_get (λ c. is_stored_prefix t c ≡ true) t.coords k [] (coords_stored t s) a.0 in
        let q : coords_at t k ≡ front ++ rest = (bytes_eq-Decides (coords_at t k) (front ++ rest)).0 a.1 in
        let d : is_stored_prefix t (front ++ rest) ≡ true = ap (is_stored_prefix t) (sym q) ∙ c in
        let parts = and_parts (is_front t.extents (front ++ rest)) (is_followed t.compressed t.coords (front ++ rest)) d in
        let f = front_front t.extents front rest parts.0 in
        let g = followed_front t.compressed t.coords front rest parts.1 in
        absurd (cc)

-- tensors that fit have zeros there
pub fits_zeros : FittingAreZeros
fits_zeros stored tensors s f t front rest l e =
    f.zeros t (front ++ rest)
    (unplaced (tensor_at stored t) (all_get IsStored stored t (record { extents = []; compressed = []; coords = [] }) f.levels (omega (arith, l, f.count, length_shapes stored tensors f.shapes))) front rest e)
