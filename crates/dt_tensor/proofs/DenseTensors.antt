-- Tensors whose levels are all dense.
use Rattle.std.proofs.Common.{◌≡◌, ℕ, zero, suc, ◌+◌, ◌<◌, ◌≤◌, List, [], ◌∷◌, length, get_or, map, refl, ap, sym, ◌∙◌, subst, arith, replicate, take, Option, IsSome, option_map, unwrap_or, slice_index, Bool, true, false, not, ◌||◌}
use Rattle.std.specs.List.{filter, list_all, list_any, count_by}
use Rattle.std.proofs.lemmas.List.{length-map, get_or-map, ext_get_or}
use Rattle.dt_base.specs.Ranges.{below, assignments}
use Rattle.dt_base.specs.Rows.{product}
use Rattle.dt_model.specs.Positions.{IsStored, begins, is_followed, stored_coords}
use Rattle.dt_model.specs.Shape.{dims, IsShape}
use Rattle.dt_model.specs.WholeTensor.{WholeTensor}
use Rattle.dt_model.specs.declared.shape.Shape.{Shape}
use Rattle.dt_tensor.specs.Packed.{IsPacked, number_in, whole_of, dense_levels, dense_tensor}
use Rattle.dt_tensor.proofs.Depths.{dense_passes}
use Rattle.dt_base.proofs.Filters.{filter-always, list_all-always}
use Rattle.dt_base.proofs.Assignments.{length-assignments, row_major-assignment, position-assignments}

-- no level is compressed
dense_level : (m q : ℕ) → get_or (replicate m false) q false ≡ false
dense_level zero q = refl
dense_level (suc m) zero = refl
dense_level (suc m) (suc q) = dense_level m q

-- at dense levels each coordinate follows
pub is_followed-dense : (m : ℕ) (entries : List (List ℕ)) (c : List ℕ) → is_followed (replicate m false) entries c ≡ true
is_followed-dense m entries c =
    list_all-always (λ q. not (get_or (replicate m false) q false) || list_any (begins (take (q + 1) c)) entries) (below (length c))
    (λ q. dense_passes (get_or (replicate m false) q false) (list_any (begins (take (q + 1) c)) entries) (dense_level m q))

-- dense levels store each index
pub stored_coords-dense : (ns : List ℕ) (m : ℕ) (entries : List (List ℕ)) → stored_coords ns (replicate m false) entries ≡ assignments ns
stored_coords-dense ns m entries = filter-always (is_followed (replicate m false) entries) (assignments ns) (is_followed-dense m entries)

-- a position of dense levels costs one word
pub cost-dense : (m : ℕ) → count_by (λ b. b) (replicate m false) ≡ 0
cost-dense zero = refl
cost-dense (suc m) = cost-dense m

length-levels : (m : ℕ) → length (replicate m false) ≡ m
length-levels zero = refl
length-levels (suc m) = ap suc (length-levels m)

-- dense levels of a lawful shape store what they ask for
pub IsStored-dense : (shape : Shape) → IsShape shape → IsStored (dense_levels (dims shape))
IsStored-dense shape h = record {
  shape = subst (λ (o : Option Shape). IsSome o) (sym h) refl;
  levels = length-levels (length (dims shape));
  stored = sym (stored_coords-dense (dims shape) (length (dims shape)) (assignments (dims shape)));
}

-- a lawful shape and as many numbers as indices make a tensor
pub IsPacked-dense : (shape : Shape) (values : List ℕ) → IsShape shape → product (dims shape) ≤ 1048576 → length values ≡ product (dims shape) → IsPacked (dense_tensor (dims shape) values)
IsPacked-dense shape values h few full = record {
  stored = IsStored-dense shape h;
  few = omega (arith, length-assignments (dims shape));
  full = full ∙ sym (length-assignments (dims shape));
}

-- the number of a dense tensor at an index is the one at its place
pub number_in-dense : (ns values : List ℕ) (k : ℕ) → k < product ns → number_in (dense_tensor ns values) (get_or (assignments ns) k []) ≡ get_or values k 0
number_in-dense ns values k h =
    ap (λ (r : Option ℕ). unwrap_or (option_map (slice_index values) r) 0) (position-assignments ns (get_or (assignments ns) k []) ∙ row_major-assignment ns k h)

-- the numbers of a dense tensor, index by index
numbers-dense : (ns values : List ℕ) → length values ≡ product ns → map (number_in (dense_tensor ns values)) (assignments ns) ≡ values
numbers-dense ns values full =
    ext_get_or 0 (map (number_in (dense_tensor ns values)) (assignments ns)) values
    (length-map (assignments ns) (number_in (dense_tensor ns values)) ∙ length-assignments ns ∙ sym full)
    (λ k h. let room : k < length (assignments ns) = omega (arith, length-map (assignments ns) (number_in (dense_tensor ns values))) in
    get_or-map (number_in (dense_tensor ns values)) (assignments ns) k [] 0 room ∙ number_in-dense ns values k (omega (arith, length-assignments ns)))

-- the whole tensor with these extents and numbers
abbrev pub whole_with : List ℕ → List ℕ → WholeTensor
whole_with ns vs = record { extents = ns; values = vs }

-- the whole tensor of a dense one has the same numbers
pub whole_of-dense : (ns values : List ℕ) → length values ≡ product ns → whole_of (dense_tensor ns values) ≡ record { extents = ns; values = values }
whole_of-dense ns values full = ap (whole_with ns) (numbers-dense ns values full)

-- a dense tensor has as many numbers as indices
pub count-dense : (ns values : List ℕ) → IsPacked (dense_tensor ns values) → length values ≡ product ns
count-dense ns values h = h.full ∙ length-assignments ns

-- a position of dense levels is a row-major number
pub position-within : (ns : List ℕ) (k : ℕ) → k < length (dense_levels ns).coords → k < product ns
position-within ns k h = omega (arith, length-assignments ns)
