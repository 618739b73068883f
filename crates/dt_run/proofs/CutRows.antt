-- The rows of a dense tensor are pieces of its numbers, one after another.
use Rattle.std.proofs.Common.{◌≡◌, ℕ, zero, suc, ◌+◌, ◌-◌, ◌*◌, ◌/◌, ◌%◌, ◌<◌, ◌≤◌, List, [], ◌∷◌, ◌++◌, length, get_or, map, drop, refl, ap, ◌∙◌, sym, arith, slice_get, slice_range, unwrap_or}
use Rattle.std.specs.List.{flat_map}
use Rattle.std.proofs.lemmas.List.{length-map, length-take, length-drop, get_or-map, get_or-take, get_or-drop, ext_get_or, take-append-drop}
use Rattle.std.proofs.lemmas.List.Concat.{flat_map-append}
use Rattle.std.proofs.lemmas.List.Folds.{flat_map-map}
use Rattle.std.proofs.lemmas.Nat.{mul-add-lt, row_fits}
use Rattle.std.proofs.Math.Nat.{add-mul, mul_assoc}
use Rattle.dt_base.specs.Ranges.{assignments, below}
use Rattle.dt_base.specs.Rows.{product}
use Rattle.dt_base.proofs.Assignments.{length-assignments, assignments-row, assignments-split}
use Rattle.dt_base.proofs.Ranges.{length-below, get_or-below}
use Rattle.dt_base.proofs.Rows.{product-append}
use Rattle.dt_tensor.specs.Packed.{number_in, dense_tensor}
use Rattle.dt_tensor.proofs.DenseTensors.{number_in-dense}
use Rattle.dt_run.specs.TensorText.{cut_text, front_extents, last_extents, row_at, row_length, row_text, rows_text}

-- Coordinates in front and behind ---------------------------------------------------------------------------------------

-- the place of column j of the row y in block x
place : (x a y b j : ℕ) → x * (a * b) + (y * b + j) ≡ (x * a + y) * b + j
place x a y b j =
    let e : (x * a + y) * b ≡ x * a * b + y * b = add-mul (x * a) y b in
    let f : x * a * b ≡ x * (a * b) = mul_assoc x a b in
    omega (arith, e, f)

-- the coordinates r in front of the coordinates j are those with the number of row r and column j
pub joined_assignment : (fs ls : List ℕ) (r j : ℕ) → r < product fs → j < product ls
    → get_or (assignments fs) r [] ++ get_or (assignments ls) j [] ≡ get_or (assignments (fs ++ ls)) (r * product ls + j) []
joined_assignment [] ls zero j h k = ap (λ (i : ℕ). get_or (assignments ls) i []) (let e : j ≡ 0 * product ls + j = omega arith in e)
joined_assignment [] ls (suc r) j h k = absurd (omega arith)
joined_assignment (m ∷ fs) ls r j h k =
    let parts : (r / product fs < m) × (r % product fs < product fs) × (get_or (assignments (m ∷ fs)) r [] ≡ (r / product fs) ∷ get_or (assignments fs) (r % product fs) []) = assignments-split m fs r h in
    let whole : r ≡ r / product fs * product fs + r % product fs = omega arith in
    let both : product (fs ++ ls) ≡ product fs * product ls = product-append fs ls in
    let room : r % product fs * product ls + j < product (fs ++ ls) = omega (arith, both, mul-add-lt (r % product fs) (product ls) j (product fs) parts.1 k) in
    ap (λ (c : List ℕ). c ++ get_or (assignments ls) j []) parts.2
    ∙ ap (λ (c : List ℕ). (r / product fs) ∷ c) (joined_assignment fs ls (r % product fs) j parts.1 k)
    ∙ sym (assignments-row m (fs ++ ls) (r / product fs) (r % product fs * product ls + j) parts.0 room)
    ∙ ap (λ (i : ℕ). get_or (assignments (m ∷ (fs ++ ls))) i [])
    (ap (λ (p : ℕ). r / product fs * p + (r % product fs * product ls + j)) both
    ∙ place (r / product fs) (product fs) (r % product fs) (product ls) j
    ∙ ap (λ (i : ℕ). i * product ls + j) (sym whole))

-- Rows ------------------------------------------------------------------------------------------------------------------

last_at : (ns : List ℕ) (n : ℕ) → unwrap_or (slice_get (n ∷ ns) (length ns)) 1 ≡ product (drop (length ns) (n ∷ ns))
last_at [] n = (let e : n ≡ n * 1 = omega arith in e)
last_at (m ∷ ns) n = last_at ns m

-- a row has as many numbers as there are last coordinates
pub last_is : (ns : List ℕ) → row_length ns ≡ product (last_extents ns)
last_is [] = refl
last_is (n ∷ ns) = let e : length (n ∷ ns) - 1 ≡ length ns = omega arith in rw e (last_at ns n)

-- the coordinates in front and the last one are all
front_last : (ns : List ℕ) → front_extents ns ++ last_extents ns ≡ ns
front_last ns = take-append-drop (length ns - 1) ns

-- there is a number for each coordinate in front and each last one
pub rows_whole : (ns : List ℕ) → product ns ≡ product (front_extents ns) * product (last_extents ns)
rows_whole ns = ap product (sym (front_last ns)) ∙ product-append (front_extents ns) (last_extents ns)

-- a row of a dense tensor is a piece of its numbers
pub row_cut : (ns values : List ℕ) (r : ℕ) → length values ≡ product ns → r < product (front_extents ns)
    → slice_range values (r * product (last_extents ns)) (r * product (last_extents ns) + product (last_extents ns)) ≡ row_at (dense_tensor ns values) (get_or (assignments (front_extents ns)) r [])
row_cut ns values r e h =
    let n : ℕ = product (last_extents ns) in
    let c : List ℕ = get_or (assignments (front_extents ns)) r [] in
    let room : r * n + n ≤ product (front_extents ns) * n = row_fits r n (product (front_extents ns)) n h (omega arith) in
    let all : length values ≡ product (front_extents ns) * n = e ∙ rows_whole ns in
    let wide : r * n + n - r * n ≡ n = omega arith in
    let long : length (slice_range values (r * n) (r * n + n)) ≡ n = omega (arith, wide, room, all, length-take (r * n + n - r * n) (drop (r * n) values), length-drop (r * n) values) in
    let last : length (assignments (last_extents ns)) ≡ n = length-assignments (last_extents ns) in
    ext_get_or 0 (slice_range values (r * n) (r * n + n)) (row_at (dense_tensor ns values) c)
    (long ∙ sym (length-map (assignments (last_extents ns)) (λ k. number_in (dense_tensor ns values) (c ++ k)) ∙ last))
    (λ j l.
    let in' : j < n = omega (arith, l, long) in
    let at : r * n + j < product ns = omega (arith, in', room, rows_whole ns) in
    get_or-take (r * n + n - r * n) (drop (r * n) values) j 0 (omega (arith, in', wide))
    ∙ get_or-drop (r * n) values j 0
    ∙ sym (number_in-dense ns values (r * n + j) at)
    ∙ ap (λ (d : List ℕ). number_in (dense_tensor ns values) d)
    (ap (λ (ms : List ℕ). get_or (assignments ms) (r * n + j) []) (sym (front_last ns)) ∙ sym (joined_assignment (front_extents ns) (last_extents ns) r j h in'))
    ∙ sym (get_or-map (λ k. number_in (dense_tensor ns values) (c ++ k)) (assignments (last_extents ns)) j [] 0 (omega (arith, in', last))))

-- a list by the places of its elements
listed : {A : Type 0} (xs : List A) (d : A) → xs ≡ map (λ k. get_or xs k d) (below (length xs))
listed xs d =
    ext_get_or d xs (map (λ k. get_or xs k d) (below (length xs)))
    (sym (length-map (below (length xs)) (λ k. get_or xs k d) ∙ length-below (length xs)))
    (λ k h. let room : k < length (below (length xs)) = omega (arith, h, length-below (length xs)) in
    sym (get_or-map (λ i. get_or xs i d) (below (length xs)) k 0 d room ∙ ap (λ (i : ℕ). get_or xs i d) (get_or-below (length xs) k 0 h)))

rows_same : {A : Type 0} (f g : ℕ → List A) (n : ℕ) → ((r : ℕ) → r < n → f r ≡ g r) → flat_map f (below n) ≡ flat_map g (below n)
rows_same f g zero h = refl
rows_same f g (suc n) h =
    flat_map-append f (below n) (n ∷ []) ∙ ap (λ (l : List _). l ++ flat_map f (n ∷ [])) (rows_same f g n (λ r l. h r (omega arith)))
    ∙ ap (λ (l : List _). flat_map g (below n) ++ (l ++ [])) (h n (omega arith)) ∙ sym (flat_map-append g (below n) (n ∷ []))

-- the rows of a dense tensor are its numbers, cut into pieces
pub cut_rows : (ns values : List ℕ) → length values ≡ product ns → rows_text (dense_tensor ns values) ≡ cut_text (product (front_extents ns)) (row_length ns) values
cut_rows ns values e =
    ap (λ (cs : List (List ℕ)). flat_map (λ c. row_text (row_at (dense_tensor ns values) c)) cs) (listed (assignments (front_extents ns)) [])
    ∙ flat_map-map (λ c. row_text (row_at (dense_tensor ns values) c)) (λ r. get_or (assignments (front_extents ns)) r []) (below (length (assignments (front_extents ns))))
    ∙ ap (λ (n : ℕ). flat_map (λ r. row_text (row_at (dense_tensor ns values) (get_or (assignments (front_extents ns)) r []))) (below n)) (length-assignments (front_extents ns))
    ∙ rows_same (λ r. row_text (row_at (dense_tensor ns values) (get_or (assignments (front_extents ns)) r []))) (λ r. row_text (slice_range values (r * product (last_extents ns)) (r * product (last_extents ns) + product (last_extents ns))))
    (product (front_extents ns)) (λ r h. ap row_text (sym (row_cut ns values r e h)))
    ∙ ap (λ (n : ℕ). cut_text (product (front_extents ns)) n values) (sym (last_is ns))
