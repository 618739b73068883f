-- The front coordinates of an index, by row-major numbers.
use Rattle.std.proofs.Common.{◌≡◌, ℕ, zero, suc, ◌+◌, ◌*◌, ◌/◌, ◌%◌, ◌<◌, ◌≤◌, ◌==◌, List, [], ◌∷◌, ◌++◌, length, get_or, take, drop, map, refl, ap, sym, ◌∙◌, subst, arith, Option, Some, Bool, true, false, inl, inr}
use Rattle.std.specs.Str.{bytes_eq}
use Rattle.std.proofs.lemmas.Bool.Decides.{eqb_tells}
use Rattle.std.proofs.lemmas.List.{take-append-drop, length-map, get_or-map, ext_get_or}
use Rattle.std.proofs.lemmas.Nat.{mul-add-lt, div_below, mod_below, div-add-mod'}
use Rattle.dt_base.specs.Ranges.{below, assignments}
use Rattle.dt_base.specs.Rows.{product, row_major}
use Rattle.dt_base.proofs.Assignments.{length-assignments, assignments-row, assignments-split, row_major-assignment, assignment-row_major}
use Rattle.dt_base.proofs.Firsts.{bytes_eq-same, bytes_eq-apart}
use Rattle.dt_base.proofs.Ranges.{length-below, get_or-below}
use Rattle.dt_base.proofs.Rows.{product-append, row_major-below}
use Rattle.std.specs.List.{All}
use Rattle.std.proofs.lemmas.List.Elements.{All-filter, All-from_get_or, All-get_or, All-same}
use Rattle.dt_model.specs.Positions.{StoredTensor, IsStored, begins, coords_at, is_followed, stored_coords}
use Rattle.dt_tensor.specs.Packed.{index_at}

-- the sizes of the front and of what is behind
pub product_cut : (ns : List ℕ) (k : ℕ) → product ns ≡ product (take k ns) * product (drop k ns)
product_cut ns k = ap product (sym (take-append-drop k ns)) ∙ product-append (take k ns) (drop k ns)

-- an index has a coordinate for each extent
pub length-index : (ns : List ℕ) (n : ℕ) → n < product ns → length (index_at ns n) ≡ length ns
length-index [] zero h = refl
length-index [] (suc n) h = absurd (omega arith)
length-index (m ∷ ns) n h =
    let s = assignments-split m ns n h in
    ap length s.2 ∙ ap suc (length-index ns (n % product ns) s.1)

-- the front of an index has the quotient as its number
pub index_front : (ns : List ℕ) (k f r : ℕ) → f < product (take k ns) → r < product (drop k ns) → take k (index_at ns (f * product (drop k ns) + r)) ≡ index_at (take k ns) f
index_front ns zero zero r h lt = refl
index_front ns zero (suc f) r h lt = absurd (omega arith)
index_front [] (suc k) zero zero h lt = refl
index_front [] (suc k) zero (suc r) h lt = absurd (omega arith)
index_front [] (suc k) (suc f) r h lt = absurd (omega arith)
index_front (m ∷ ns) (suc k) f r h lt =
    let s = assignments-split m (take k ns) f h in
    let x = f / product (take k ns) in
    let g = f % product (take k ns) in
    let inner : g * product (drop k ns) + r < product ns = subst (λ (p : ℕ). g * product (drop k ns) + r < p) (turned (product (drop k ns)) (product (take k ns)) ∙ sym (product_cut ns k)) (mul-add-lt g (product (drop k ns)) r (product (take k ns)) s.1 lt) in
    ap (λ (n : ℕ). take (suc k) (index_at (m ∷ ns) n)) (parts (product (take k ns)) (product (drop k ns)) x g r f (sym (div-add-mod' f (product (take k ns)))) ∙ ap (λ (p : ℕ). x * p + (g * product (drop k ns) + r)) (sym (product_cut ns k)))
    ∙ ap (λ (c : List ℕ). take (suc k) c) (assignments-row m ns x (g * product (drop k ns) + r) s.0 inner)
    ∙ ap (λ (c : List ℕ). x ∷ c) (index_front ns k g r s.1 lt)
    ∙ sym s.2
  where
    turned : (a b : ℕ) → a * b ≡ b * a
    turned a b = omega arith

    parts : (p s x g r f : ℕ) → f ≡ x * p + g → f * s + r ≡ x * (p * s) + (g * s + r)
    parts p s x g r f e = ap (λ (n : ℕ). n * s + r) e ∙ spread p s x g r
      where
        spread : (p s x g r : ℕ) → (x * p + g) * s + r ≡ x * (p * s) + (g * s + r)
        spread p s x g r = omega arith

-- the front of an index, from its number
pub front_number : (ns : List ℕ) (k n : ℕ) → n < product ns → 0 < product (drop k ns)
    → (n / product (drop k ns) < product (take k ns)) × (take k (index_at ns n) ≡ index_at (take k ns) (n / product (drop k ns)))
front_number ns k n h pos =
    let f : n / product (drop k ns) < product (take k ns) = div_below n (product (drop k ns)) (product (take k ns)) pos (subst (λ (p : ℕ). n < p) (product_cut ns k) h) in
    (f, ap (λ (m : ℕ). take k (index_at ns m)) (sym (div-add-mod' n (product (drop k ns)))) ∙ index_front ns k (n / product (drop k ns)) (n % product (drop k ns)) f (mod_below n (product (drop k ns)) pos))

-- indices are equal where their numbers are
pub index_eq : (ns : List ℕ) (a b : ℕ) → a < product ns → b < product ns → bytes_eq (index_at ns a) (index_at ns b) ≡ (a == b)
index_eq ns a b h k = elim (eqb_tells a b) [
  | inl e ↦ ap (λ (n : ℕ). bytes_eq (index_at ns a) (index_at ns n)) (sym e.1) ∙ bytes_eq-same (index_at ns a) ∙ sym e.0
  | inr e ↦ bytes_eq-apart (index_at ns a) (index_at ns b) (λ same. e.1 (number ns a b h k same)) ∙ sym e.0
]
  where
    number : (ns : List ℕ) (a b : ℕ) → a < product ns → b < product ns → index_at ns a ≡ index_at ns b → a ≡ b
    number ns a b h k same =
        let e : ◌≡◌ {A = Option ℕ} (Some a) (Some b) = sym (row_major-assignment ns a h) ∙ ap (λ (c : List ℕ). row_major ns c) same ∙ row_major-assignment ns b k in
        cc

-- a front begins an index where the number of the index's front is its own
pub begins_by_number : (ns : List ℕ) (k u v : ℕ) → k ≤ length ns → 0 < product (drop k ns) → u < product ns → v < product (take k ns)
    → begins (index_at (take k ns) v) (index_at ns u) ≡ (u / product (drop k ns) == v)
begins_by_number ns k u v le pos h lt =
    let f = front_number ns k u h pos in
    ap (λ (j : ℕ). bytes_eq (take j (index_at ns u)) (index_at (take k ns) v)) (length-index (take k ns) v lt ∙ length_front k ns le)
    ∙ ap (λ (c : List ℕ). bytes_eq c (index_at (take k ns) v)) f.1
    ∙ index_eq (take k ns) (u / product (drop k ns)) v f.0 lt
  where
    length_front : (k : ℕ) (ns : List ℕ) → k ≤ length ns → length (take k ns) ≡ k
    length_front zero ns h = refl
    length_front (suc k) [] h = absurd (omega arith)
    length_front (suc k) (n ∷ ns) h = ap suc (length_front k ns (omega arith))

-- all indices, by their numbers
pub indices_by_number : (ns : List ℕ) → map (index_at ns) (below (product ns)) ≡ assignments ns
indices_by_number ns =
    ext_get_or [] (map (index_at ns) (below (product ns))) (assignments ns) (length-map (below (product ns)) (index_at ns) ∙ length-below (product ns) ∙ sym (length-assignments ns))
    (λ i h. let lt : i < product ns = omega (arith, length-map (below (product ns)) (index_at ns), length-below (product ns)) in
    let room : i < length (below (product ns)) = omega (arith, length-below (product ns)) in
    get_or-map (index_at ns) (below (product ns)) i 0 [] room ∙ ap (index_at ns) (get_or-below (product ns) i 0 lt))

-- what is said of each index, by its number
pub map_by_number : {A : Type 0} (f : List ℕ → A) (ns : List ℕ) → map (λ n. f (index_at ns n)) (below (product ns)) ≡ map f (assignments ns)
map_by_number {A} f ns = both (below (product ns)) ∙ ap (map f) (indices_by_number ns)
  where
    both : (xs : List ℕ) → map (λ n. f (index_at ns n)) xs ≡ map f (map (index_at ns) xs)
    both [] = refl
    both (x ∷ xs) = ap (λ (l : List A). f (index_at ns x) ∷ l) (both xs)

-- stored coordinates have one for each extent
pub coords_length : (t : StoredTensor) (k : ℕ) → IsStored t → k < length t.coords → length (coords_at t k) ≡ length t.extents
coords_length t k h lt =
    All-get_or (λ c. length c ≡ length t.extents) t.coords k [] lt
    (All-same (λ c. length c ≡ length t.extents) t.coords (stored_coords t.extents t.compressed t.coords) h.stored
    (All-filter (is_followed t.compressed t.coords) (λ c. length c ≡ length t.extents) (assignments t.extents) (long t.extents)))
  where
    long : (ns : List ℕ) → All (λ c. length c ≡ length ns) (assignments ns)
    long ns = All-from_get_or (λ c. length c ≡ length ns) (assignments ns) [] (λ i h. length-index ns i (let lt : i < product ns = omega (arith, length-assignments ns) in lt))
