-- The position at which an access stands.
use Rattle.std.proofs.Common.{◌≡◌, ℕ, ◌-◌, ◌<◌, ◌≤◌, Bool, true, false, ◌||◌, ◌&&◌, List, [], ◌∷◌, ◌++◌, length, replicate, map, Option, Some, None, is_some, refl, ap, sym, ◌∙◌, subst, arith}
use Rattle.std.specs.Prelude.{IsSome, nat_le, nat_lt, nat_eq, min, if◌then◌else◌}
use Rattle.std.specs.List.{AllByRecursion, list_all}
use Rattle.std.specs.Str.{bytes_eq}
use Rattle.std.proofs.lemmas.Bool.{eqb-true, eq-eqb, lt-ltb, ltb-true, and_from}
use Rattle.std.proofs.lemmas.Bool.Decides.{nat_tests}
use Rattle.std.proofs.lemmas.Slice.Eq.{bytes_eq-Decides}
use Rattle.std.proofs.lemmas.List.Sums.{count_by-le-length, length-filter}
use Rattle.std.proofs.Math.Bool.{or-false}
use Rattle.dt_base.specs.Ranges.{below, assignments}
use Rattle.dt_base.specs.Rows.{product}
use Rattle.dt_model.specs.Positions.{StoredTensor, IsStored, is_followed, coords_at, place_in}
use Rattle.dt_model.specs.PositionLaws.{HasOrderedPositions}
use Rattle.dt_model.specs.Shape.{are_extents, is_extent, shape_of_extents}
use Rattle.dt_model.specs.declared.shape.Shape.{Shape}
use Rattle.dt_model.specs.declared.stmt.Access.{Access}
use Rattle.dt_base.proofs.Filters.{same_truth}
use Rattle.dt_base.proofs.Firsts.{bytes_eq-same}
use Rattle.dt_model.proofs.PositionFacts.{ordered_positions}
use Rattle.dt_model.proofs.ShapeFacts.{both, extent_facts}
use Rattle.dt_nest.proofs.Each.{all_filter, all_flat, all_get, all_made, below_all}
use Rattle.dt_nest.specs.Meaning.{Env}
use Rattle.dt_base.proofs.Assignments.{length-assignments}
use Rattle.dt_bounds.specs.Found.{is_at}
use Rattle.dt_bounds.specs.Points.{is_reached}

-- a place of coordinates is the position that has them
place_tells : (t : StoredTensor) → IsStored t → (c : List ℕ) (o : Option ℕ) → o ≡ place_in t c → (x : ℕ) → is_at o x ≡ (nat_lt x (length t.coords) && bytes_eq c (coords_at t x))
place_tells t s c o e x = same_truth (is_at o x) (nat_lt x (length t.coords) && bytes_eq c (coords_at t x)) (forth o e) back
  where
    laws : HasOrderedPositions t
    laws = ordered_positions t s

    forth : (o : Option ℕ) → o ≡ place_in t c → is_at o x ≡ true → (nat_lt x (length t.coords) && bytes_eq c (coords_at t x)) ≡ true
    forth None e h = absurd (cc)
    forth (Some k) e h =
        let same : k ≡ x = eqb-true k x h in
        let found = laws.found c k (sym e) in
        let within : x < length t.coords = subst (λ (z : ℕ). z < length t.coords) same found.1 in
        let here : coords_at t x ≡ c = subst (λ (z : ℕ). coords_at t z ≡ c) same found.0 in
        and_from (nat_lt x (length t.coords)) (bytes_eq c (coords_at t x)) (lt-ltb x (length t.coords) within) (ap (λ (d : List ℕ). bytes_eq c d) here ∙ bytes_eq-same c)

    back : (nat_lt x (length t.coords) && bytes_eq c (coords_at t x)) ≡ true → is_at o x ≡ true
    back h =
        let parts = both (nat_lt x (length t.coords)) (bytes_eq c (coords_at t x)) h in
        let here : c ≡ coords_at t x = (bytes_eq-Decides c (coords_at t x)).0 parts.1 in
        let place : o ≡ Some x = e ∙ ap (λ (d : List ℕ). place_in t d) here ∙ laws.placed x (ltb-true x (length t.coords) parts.0) in
        ap (λ (p : Option ℕ). is_at p x) place ∙ eq-eqb x x refl

-- stored coordinates are small
few : (ns : List ℕ) → list_all is_extent ns ≡ true → AllByRecursion (λ c. AllByRecursion (λ x. x < 4294967295) c) (assignments ns)
few [] h = (tt, tt)
few (n ∷ ns) h =
    let parts = both (is_extent n) (list_all is_extent ns) h in
    let bound : n ≤ 4096 = most n parts.0 in
    all_flat (λ i. i < n) (λ c. AllByRecursion (λ x. x < 4294967295) c) (λ i. map (λ a. i ∷ a) (assignments ns))
    (λ i l. all_made (λ c. AllByRecursion (λ x. x < 4294967295) c) (λ c. AllByRecursion (λ x. x < 4294967295) c) (λ a. i ∷ a) (λ a k. (omega arith, k)) (assignments ns) (few ns parts.1))
    (below n) (below_all n)
  where
    most : (n : ℕ) → is_extent n ≡ true → n ≤ 4096
    most n h = grind (arith, nat_tests)

-- extents of a shape pass their test
extents_pass : (ns : List ℕ) → IsSome (shape_of_extents ns) → are_extents ns ≡ true
extents_pass ns h = go (are_extents ns) h
  where
    go : (b : Bool) → is_some {T = Shape} (if b then Some (record { order = length ns; extents = ns ++ replicate (4 - length ns) 1 }) else None) ≡ true → b ≡ true
    go true h = refl
    go false h = absurd (cc)

-- and so does each of them
each_extent : (ns : List ℕ) → are_extents ns ≡ true → list_all is_extent ns ≡ true
each_extent ns h = (both (nat_le (length ns) 4) (list_all is_extent ns) (both (nat_le (length ns) 4 && list_all is_extent ns) (nat_le (product ns) 16777216) h).0).1

-- the coordinates at a position are small
coords_few : (t : StoredTensor) → IsStored t → (x : ℕ) → x < length t.coords → AllByRecursion (λ y. y < 4294967295) (coords_at t x)
coords_few t s x l =
    all_get (AllByRecursion (λ y. y < 4294967295)) t.coords x []
    (subst (λ (cs : List (List ℕ)). AllByRecursion (AllByRecursion (λ y. y < 4294967295)) cs) (sym s.stored)
    (all_filter (AllByRecursion (λ y. y < 4294967295)) (is_followed t.compressed t.coords) (assignments t.extents) (few t.extents (each_extent t.extents (extents_pass t.extents s.shape)))))
    l

-- clipped coordinates are those of the same small ones
clipped-same : (c d : List ℕ) → AllByRecursion (λ y. y < 4294967295) d → bytes_eq (map (λ y. min y 4294967295) c) d ≡ bytes_eq c d
clipped-same [] [] h = refl
clipped-same [] (z ∷ d) h = refl
clipped-same (y ∷ c) [] h = refl
clipped-same (y ∷ c) (z ∷ d) h = ap (λ (b : Bool). b && bytes_eq (map (λ y. min y 4294967295) c) d) (here y z h.0) ∙ ap (λ (b : Bool). nat_eq y z && b) (clipped-same c d h.1)
  where
    here : (y z : ℕ) → z < 4294967295 → nat_eq (min y 4294967295) z ≡ nat_eq y z
    here y z h = same_truth (nat_eq (min y 4294967295) z) (nat_eq y z)
        (λ e. let same = eqb-true (min y 4294967295) z e in eq-eqb y z (omega arith))
        (λ e. let same = eqb-true y z e in eq-eqb (min y 4294967295) z (omega arith))

-- where nothing more is said of x than below n, tests that agree there are the same
agree_below : (x n : ℕ) (a b : Bool) → (x < n → a ≡ b) → (nat_lt x n && a) ≡ (nat_lt x n && b)
agree_below x n a b h = go (nat_lt x n) refl
  where
    go : (l : Bool) → nat_lt x n ≡ l → (l && a) ≡ (l && b)
    go true e = h (ltb-true x n e)
    go false e = refl

-- the position of an access of the tensor, by its clipped coordinates
pub access-place : (t : StoredTensor) → IsStored t → (tensor : ℕ) (val : Env) (a : Access) (c : List ℕ) (o : Option ℕ) → a.tensor ≡ tensor → c ≡ map (λ u. min (val u) 4294967295) a.vars → o ≡ place_in t c
    → (x : ℕ) → is_at o x ≡ (nat_lt x (length t.coords) && is_reached t tensor val (a ∷ []) x)
access-place t s tensor val a c o n e p x =
    place_tells t s c o p x
    ∙ agree_below x (length t.coords) (bytes_eq c (coords_at t x)) (is_reached t tensor val (a ∷ []) x)
    (λ l.
    ap (λ (d : List ℕ). bytes_eq d (coords_at t x)) (e ∙ sym (map-twice (λ y. min y 4294967295) val a.vars)) ∙ clipped-same (map val a.vars) (coords_at t x) (coords_few t s x l)
    ∙ sym (ap (λ (b : Bool). b && bytes_eq (map val a.vars) (coords_at t x) || false) (eq-eqb a.tensor tensor n) ∙ or-false (bytes_eq (map val a.vars) (coords_at t x))))
  where
    map-twice : (f g : ℕ → ℕ) (us : List ℕ) → map f (map g us) ≡ map (λ u. f (g u)) us
    map-twice f g [] = refl
    map-twice f g (u ∷ us) = ap (λ (l : List ℕ). f (g u) ∷ l) (map-twice f g us)

-- a position is a number of 32 bits that is not the greatest
pub positions_small : (t : StoredTensor) → IsStored t → length t.coords < 4294967295
positions_small t s =
    let count = ap length s.stored ∙ length-filter (is_followed t.compressed t.coords) (assignments t.extents) in
    let most = count_by-le-length (is_followed t.compressed t.coords) (assignments t.extents) in
    let facts = extent_facts t.extents (extents_pass t.extents s.shape) in
    omega (arith, count, most, length-assignments t.extents, facts.size)
