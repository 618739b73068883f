-- Levels with the fronts of some entries store what their levels ask for.
use Rattle.std.proofs.Common.{◌≡◌, ℕ, zero, suc, ◌+◌, ◌-◌, ◌*◌, ◌/◌, ◌<◌, ◌≤◌, ◌==◌, List, [], ◌∷◌, length, take, drop, map, refl, ap, ap₂, sym, ◌∙◌, subst, arith, Option, Some, None, IsSome, option_map, is_some, is_none, Bool, true, false, cond, ◌&&◌, ◌||◌, nat_lt, inl, inr}
use Rattle.std.specs.List.{All, AllByRecursion, filter, filter_map, list_any}
use Rattle.std.specs.List.Sorted.{IsStrictlyIncreasing}
use Rattle.std.proofs.Math.Nat.{div-one}
use Rattle.std.proofs.lemmas.Bool.{cases_lt, lt-ltb, le-ltb}
use Rattle.std.proofs.lemmas.Bool.Decides.{eqb_tells}
use Rattle.std.proofs.lemmas.List.{take_all}
use Rattle.std.proofs.lemmas.List.Elements.{recursion_from_All}
use Rattle.dt_base.specs.Ranges.{below, assignments}
use Rattle.dt_base.specs.Rows.{product, row_major}
use Rattle.dt_base.proofs.Assignments.{assignment-row_major}
use Rattle.dt_base.proofs.Rows.{row_major-below}
use Rattle.dt_model.specs.Positions.{IsStored, begins, is_followed, stored_coords}
use Rattle.dt_model.specs.Shape.{shape_of_extents}
use Rattle.dt_model.specs.declared.shape.Shape.{Shape}
use Rattle.dt_runs.specs.Sets.{contains}
use Rattle.dt_runs.proofs.BelowSets.{Ascends-below, contains-below}
use Rattle.dt_runs.proofs.SetLemmas.{filter_by_contains, strictly_increasing_from_ascends}
use Rattle.dt_tensor.specs.Packed.{depth_of, index_at, levels_with, numbers_behind}
use Rattle.dt_tensor.specs.Packing.{fronts_given}
use Rattle.dt_tensor.specs.declared.entry.Given.{Given}
use Rattle.dt_tensor.proofs.BehindFronts.{ascending_behind, contains-behind}
use Rattle.dt_tensor.proofs.Depths.{followed_deep}
use Rattle.dt_tensor.proofs.IndexNumbers.{front_number, indices_by_number, length-index, begins_by_number}
use Rattle.dt_tensor.proofs.StoredFronts.{product-drop-positive, within_behind, any_begins}

filter_after : (f : ℕ → List ℕ) (p : List ℕ → Bool) (xs : List ℕ) → filter p (map f xs) ≡ map f (filter (λ x. p (f x)) xs)
filter_after f p [] = refl
filter_after f p (x ∷ xs) = by_test (p (f x)) (filter_after f p xs)
  where
    by_test : (b : Bool) → filter p (map f xs) ≡ map f (filter (λ x. p (f x)) xs) → cond b (f x ∷ filter p (map f xs)) (filter p (map f xs)) ≡ map f (cond b (x ∷ filter (λ x. p (f x)) xs) (filter (λ x. p (f x)) xs))
    by_test true e = ap (λ (l : List (List ℕ)). f x ∷ l) e
    by_test false e = e

-- a number that is not below the bound of a list is not in it
not_contained : (xs : List ℕ) (n x : ℕ) → AllByRecursion (λ p. p < n) xs → n ≤ x → contains xs x ≡ false
not_contained [] n x a h = refl
not_contained (p ∷ xs) n x a h = ap₂ (λ (s t : Bool). s || t) apart (not_contained xs n x a.1 h)
  where
    apart : (p == x) ≡ false
    apart = elim (eqb_tells p x) [ inl e ↦ absurd (let l = a.0 in omega (arith, l, h, e.1)) | inr e ↦ e.0 ]

-- the stored coordinates are those behind the fronts that begin an entry
pub stored_by_fronts : (ns : List ℕ) (comp : List Bool) (fs : List ℕ) (es : List (List ℕ)) → AllByRecursion (λ n. 1 ≤ n) ns → length comp ≡ length ns → IsStrictlyIncreasing fs
    → All (λ f. f < product (take (depth_of comp) ns)) fs → 0 < depth_of comp
    → ((v : ℕ) → v < product (take (depth_of comp) ns) → list_any (begins (index_at (take (depth_of comp) ns) v)) es ≡ contains fs v)
    → stored_coords ns comp es ≡ (levels_with ns comp fs).coords
stored_by_fronts ns comp fs es each levels up inside deep same =
    ap (filter (is_followed comp es)) (sym (indices_by_number ns))
    ∙ filter_after (index_at ns) (is_followed comp es) (below (product ns))
    ∙ ap (map (index_at ns)) (sym (filter_by_contains test (numbers_behind size fs) (below (product ns)) (Ascends-below (product ns)) (strictly_increasing_from_ascends 0 (numbers_behind size fs) (ascending_behind size fs up)) members))
  where
    size : ℕ
    size = product (drop (depth_of comp) ns)

    test : ℕ → Bool
    test n = is_followed comp es (index_at ns n)

    room : 0 < size
    room = product-drop-positive ns (depth_of comp) each

    here : (x : ℕ) → x < product ns → test x ≡ contains fs (x / size)
    here x h =
        let long : length (index_at ns x) ≡ length comp = length-index ns x h ∙ sym levels in
        let whole : depth_of (take (length (index_at ns x)) comp) ≡ depth_of comp = ap (λ (l : List Bool). depth_of l) (take_all (length (index_at ns x)) comp (omega (arith, long))) in
        let front = front_number ns (depth_of comp) x h room in
        (followed_deep comp es (index_at ns x) (depth_of comp) (omega (arith, long)) whole deep).1
        ∙ ap (λ (c : List ℕ). list_any (begins c) es) front.1 ∙ same (x / size) front.0

    members : (x : ℕ) → contains (numbers_behind size fs) x ≡ (contains (below (product ns)) x && test x)
    members x = elim (cases_lt x (product ns)) [
      | inl h ↦ contains-behind size fs x room ∙ sym (here x h) ∙ ap (λ (b : Bool). b && test x) (sym (contains-below (product ns) x ∙ lt-ltb x (product ns) h))
      | inr ge ↦
          not_contained (numbers_behind size fs) (product ns) x (recursion_from_All (λ p. p < product ns) (numbers_behind size fs) (within_behind ns (depth_of comp) fs room inside)) ge
          ∙ ap (λ (b : Bool). b && test x) (sym (contains-below (product ns) x ∙ le-ltb x (product ns) ge))
    ]

-- so the stored coordinates store themselves
pub fronts_stored : (ns : List ℕ) (comp : List Bool) (fs : List ℕ) → AllByRecursion (λ n. 1 ≤ n) ns → IsSome (shape_of_extents ns) → length comp ≡ length ns → IsStrictlyIncreasing fs
    → All (λ f. f < product (take (depth_of comp) ns)) fs → 0 < depth_of comp → depth_of comp ≤ length ns → IsStored (levels_with ns comp fs)
fronts_stored ns comp fs each shape levels up inside deep fits = record {
  shape = shape;
  levels = levels;
  stored = sym (stored_by_fronts ns comp fs (levels_with ns comp fs).coords each levels up inside deep
      (λ v h. any_begins ns (depth_of comp) (depth_of comp) v fs (omega arith) fits each inside h ∙ one v fs));
}
  where
    one : (v : ℕ) (fs : List ℕ) → list_any (λ f. f / product (take (depth_of comp - depth_of comp) (drop (depth_of comp) ns)) == v) fs ≡ contains fs v
    one v fs =
        ap (λ (k : ℕ). list_any (λ f. f / product (take k (drop (depth_of comp) ns)) == v) fs) (let e : depth_of comp - depth_of comp ≡ 0 = omega arith in e) ∙ by_one fs
      where
        by_one : (fs : List ℕ) → list_any (λ f. f / 1 == v) fs ≡ contains fs v
        by_one [] = refl
        by_one (f ∷ fs) = ap₂ (λ (a b : Bool). a || b) (ap (λ (q : ℕ). q == v) (div-one f)) (by_one fs)

-- an entry that lies in the shape
abbrev pub Inside : List ℕ → Given → Type 0
Inside ns e = IsSome (row_major ns e.at)

-- entries begin with a front where the number of one of theirs is its number
pub given_begins : (ns : List ℕ) (k v : ℕ) (entries : List Given) → k ≤ length ns → AllByRecursion (λ n. 1 ≤ n) ns → AllByRecursion (Inside ns) entries → v < product (take k ns)
    → list_any (begins (index_at (take k ns) v)) (map (λ e. e.at) entries) ≡ contains (fronts_given ns (product (drop k ns)) entries) v
given_begins ns k v [] fits each a h = refl
given_begins ns k v (e ∷ es) fits each a h = by_number (row_major ns e.at) refl a.0 (given_begins ns k v es fits each a.1 h)
  where
    by_number : (r : Option ℕ) → row_major ns e.at ≡ r → IsSome (row_major ns e.at) → list_any (begins (index_at (take k ns) v)) (map (λ e. e.at) es) ≡ contains (fronts_given ns (product (drop k ns)) es) v
        → (begins (index_at (take k ns) v) e.at || list_any (begins (index_at (take k ns) v)) (map (λ e. e.at) es)) ≡ contains (fronts_given ns (product (drop k ns)) (e ∷ es)) v
    by_number None q some rest = absurd (let bad : is_some {T = ℕ} None ≡ true = ap (λ (r : Option ℕ). is_some r) (sym q) ∙ some in cc)
    by_number (Some u) q some rest =
        rw q (ap₂ (λ (s t : Bool). s || t)
        (ap (λ (c : List ℕ). begins (index_at (take k ns) v) c) (sym (assignment-row_major ns e.at u q)) ∙ begins_by_number ns k u v fits (product-drop-positive ns k each) (row_major-below ns e.at u q) h)
        rest)
