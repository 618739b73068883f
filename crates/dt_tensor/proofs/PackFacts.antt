-- What entries give, whatever the levels.
use Rattle.std.proofs.Common.{◌≡◌, ◌/◌, inl, inr, ℕ, zero, suc, ◌*◌, ◌<◌, ◌≤◌, List, [], ◌∷◌, length, get_or, take, drop, map, replicate, refl, ap, ap₂, sym, ◌∙◌, subst, arith, Option, Some, None, IsSome, Result, Ok, Err, Bool, true, false, cond, not, ◌||◌, ◌+◌, is_some, option_map, unwrap_or, slice_index, nat_lt, if◌then◌else◌}
use Rattle.std.specs.List.{All, AllByRecursion, filter, find, list_any, position, position_or_len}
use Rattle.std.specs.List.Sorted.{IsStrictlyIncreasing}
use Rattle.std.proofs.lemmas.Bool.{cases_lt, lt-ltb, le-ltb, or_right}
use Rattle.std.proofs.lemmas.Nat.{div-mul-add, div-add-mod', mod_below, mul-le}
use Rattle.dt_tensor.proofs.IndexNumbers.{product_cut}
use Rattle.std.proofs.lemmas.List.{length-map, length-take-le, get_or-map, same_lists}
use Rattle.std.proofs.lemmas.List.Elements.{recursion_from_All}
use Rattle.std.proofs.lemmas.Bool.Decides.{nat_tests}
use Rattle.std.proofs.lemmas.Slice.Eq.{bytes_eq-Decides}
use Rattle.std.specs.Str.{bytes_eq}
use Rattle.dt_base.proofs.Firsts.{bytes_eq-same}
use Rattle.dt_base.specs.Ranges.{assignments}
use Rattle.dt_base.specs.Rows.{product, row_major}
use Rattle.dt_model.specs.Positions.{StoredTensor, IsStored, begins, is_followed, stored_coords}
use Rattle.dt_model.specs.WholeTensor.{WholeTensor}
use Rattle.dt_model.specs.Shape.{dims, shape_of_extents, IsShape}
use Rattle.dt_model.specs.declared.shape.Shape.{Shape}
use Rattle.dt_model.proofs.ShapeFacts.{shape_facts}
use Rattle.dt_runs.specs.Sets.{contains}
use Rattle.dt_tensor.specs.Packed.{Packed, IsCut, depth_of, index_at, numbers_behind, levels_with, dense_levels, packed_with, number_in, whole_of}
use Rattle.dt_tensor.specs.Packing.{given_at, given_whole, first_offence, numbers_given, fronts_given, AreGiven, StoreGiven, levels_asked, packed_by, packed_or, pack_of}
use Rattle.dt_tensor.specs.declared.entry.Given.{Given}
use Rattle.dt_tensor.specs.declared.packing.PackEnd.{PackEnd}
use Rattle.dt_tensor.specs.declared.packing.PackEnd.TheVariants as ends
use Rattle.dt_tensor.proofs.BehindFronts.{length-behind}
use Rattle.dt_tensor.proofs.DenseTensors.{stored_coords-dense}
use Rattle.dt_tensor.proofs.Depths.{depth_is, make_below}
use Rattle.dt_tensor.proofs.FrontSearch.{find_any}
use Rattle.dt_tensor.proofs.StoredTables.{value_there}
use Rattle.dt_tensor.proofs.GivenFronts.{fronts_below, contains_map}
use Rattle.dt_tensor.proofs.PackedStored.{Inside, stored_by_fronts, fronts_stored, given_begins}
use Rattle.dt_tensor.proofs.StoredFronts.{product-drop-positive}

-- levels of which none is compressed
all_dense : (comp : List Bool) → depth_of comp ≡ 0 → comp ≡ replicate (length comp) false
all_dense comp e = each comp (λ q. (depth_is comp).dense q (omega (arith, e)))
  where
    each : (comp : List Bool) → ((q : ℕ) → get_or comp q false ≡ false) → comp ≡ replicate (length comp) false
    each [] h = refl
    each (b ∷ rest) h = ap₂ (λ (x : Bool) (xs : List Bool). x ∷ xs) (h 0) (each rest (λ q. h (suc q)))

pub asked_dense : (ns : List ℕ) (comp : List Bool) (entries : List Given) → length comp ≡ length ns → depth_of comp ≡ 0 → dense_levels ns ≡ levels_asked ns comp entries
asked_dense ns comp entries levels e =
    sym (ap (λ (c : List Bool). levels_asked ns c entries) (all_dense comp e ∙ ap (λ (n : ℕ). replicate n false) levels)
    ∙ ap (λ (cs : List (List ℕ)). record_of cs) (stored_coords-dense ns (length ns) (map (λ e. e.at) entries)))
  where
    record_of : List (List ℕ) → StoredTensor
    record_of cs = record { extents = ns; compressed = replicate (length ns) false; coords = cs }

-- a level for each extent
pub levels_match : (shape : Shape) (compressed : List Bool) → IsShape shape → shape.order ≤ length compressed → length (take shape.order compressed) ≡ length (dims shape)
levels_match shape compressed lawful order = omega (arith, length-take-le shape.order compressed order, (shape_facts shape lawful).used)

-- what levels with these fronts store
pub record FrontFacts (ns : List ℕ) (comp : List Bool) (fs : List ℕ) : Type 0 where
  pub stored : IsStored (levels_with ns comp fs)
  pub within : All (λ f. f < product (take (depth_of comp) ns)) fs
  pub count : length (levels_with ns comp fs).coords ≡ length fs * product (drop (depth_of comp) ns)

-- fronts that come from numbers of indices
module _ (shape : Shape) (compressed : List Bool) (depth size : ℕ) (fs numbers : List ℕ) (lawful : IsShape shape) (order : shape.order ≤ length compressed) (deep : depth ≡ depth_of (take shape.order compressed))
    (some : 0 < depth) (behind : size ≡ product (drop depth (dims shape))) (up : IsStrictlyIncreasing fs) (fronts : (f : ℕ) → contains fs f ≡ contains (map (λ n. n / size) numbers) f) where
  below_deep : 0 < depth_of (take shape.order compressed)
  below_deep = subst (λ (k : ℕ). 0 < k) deep some

  fits : depth_of (take shape.order compressed) ≤ length (dims shape)
  fits = omega (arith, (depth_is (take shape.order compressed)).within, levels_match shape compressed lawful order)

  behind_last : size ≡ product (drop (depth_of (take shape.order compressed)) (dims shape))
  behind_last = behind ∙ ap (λ (k : ℕ). product (drop k (dims shape))) deep

  pub front_facts : All (λ n. n < product (dims shape)) numbers → FrontFacts (dims shape) (take shape.order compressed) fs
  front_facts below = record {
    stored = fronts_stored (dims shape) (take shape.order compressed) fs (shape_facts shape lawful).each (subst (λ (o : Option Shape). IsSome o) (sym lawful) refl) (levels_match shape compressed lawful order) up within below_deep fits;
    within = within;
    count = length-map (numbers_behind (product (drop (depth_of (take shape.order compressed)) (dims shape))) fs) (index_at (dims shape)) ∙ length-behind (product (drop (depth_of (take shape.order compressed)) (dims shape))) fs;
  }
    where
      within : All (λ f. f < product (take (depth_of (take shape.order compressed)) (dims shape))) fs
      within = fronts_below (dims shape) (depth_of (take shape.order compressed)) numbers fs (product-drop-positive (dims shape) (depth_of (take shape.order compressed)) (shape_facts shape lawful).each) below
          (λ f. fronts f ∙ ap (λ (s : ℕ). contains (map (λ n. n / s) numbers) f) behind_last)

  pub fronts_asked : (entries : List Given) → FrontFacts (dims shape) (take shape.order compressed) fs → AreGiven (dims shape) entries numbers → All (Inside (dims shape)) entries
      → levels_with (dims shape) (take shape.order compressed) fs ≡ levels_asked (dims shape) (take shape.order compressed) entries
  fronts_asked entries facts given inside =
      ap (λ (cs : List (List ℕ)). record_of cs) (sym (stored_by_fronts (dims shape) (take shape.order compressed) fs (map (λ e. e.at) entries) (shape_facts shape lawful).each (levels_match shape compressed lawful order) up facts.within below_deep
      (λ v h. given_begins (dims shape) (depth_of (take shape.order compressed)) v entries fits (shape_facts shape lawful).each (recursion_from_All (Inside (dims shape)) entries inside) h
      ∙ ap (λ (s : ℕ). contains (fronts_given (dims shape) s entries) v) (sym behind_last)
      ∙ sym (fronts v ∙ contains_map (λ n. n / size) numbers (numbers_given (dims shape) entries) given v))))
    where
      record_of : List (List ℕ) → StoredTensor
      record_of cs = record { extents = dims shape; compressed = take shape.order compressed; coords = cs }

-- how many positions are behind so many fronts
pub front_count : (ns : List ℕ) (comp : List Bool) (depth size : ℕ) (fs : List ℕ) → FrontFacts ns comp fs → depth ≡ depth_of comp → size ≡ product (drop depth ns) → length (levels_with ns comp fs).coords ≡ length fs * size
front_count ns comp depth size fs facts deep behind = facts.count ∙ ap (λ (k : ℕ). length fs * k) (sym (behind ∙ ap (λ (k : ℕ). product (drop k ns)) deep))

-- the levels that entries with these numbers ask for
pub levels_given : (l : StoredTensor) (o : Option StoredTensor) (ns : List ℕ) (comp : List Bool) (numbers : List ℕ) (entries : List Given) → StoreGiven o ns comp numbers → o ≡ Some l → AreGiven ns entries numbers → All (Inside ns) entries
    → (l ≡ levels_asked ns comp entries) × IsStored l × (length l.coords ≤ 1048576)
levels_given l o ns comp numbers entries h is given inside =
    let a = subst (λ (o : Option StoredTensor). StoreGiven o ns comp numbers) is h entries given inside in
    (a.0, subst IsStored (sym a.0) a.1, subst (λ (t : StoredTensor). length t.coords ≤ 1048576) (sym a.0) a.2)

-- what is packed where no entry is wrong
pub packs : (ns : List ℕ) (comp : List Bool) (entries : List Given) (t : StoredTensor) (values : List ℕ) → None ≡ first_offence ns entries → t ≡ levels_asked ns comp entries
    → length (levels_asked ns comp entries).coords ≤ 1048576 → values ≡ map (given_at entries) t.coords → pack_of ns comp entries ≡ Ok (packed_with t values)
unfolding pack_of
packs ns comp entries t values none is few same =
    ap (λ (o : Option PackEnd). packed_or o (packed_by ns comp entries (levels_asked ns comp entries).coords)) (sym none)
    ∙ small (nat_lt 1048576 (length (levels_asked ns comp entries).coords)) (le-ltb 1048576 (length (levels_asked ns comp entries).coords) few)
    ∙ ap (λ (s : StoredTensor). Ok (packed_with s (map (given_at entries) s.coords))) (sym is)
    ∙ ap (λ (vs : List ℕ). Ok (packed_with t vs)) (sym same)
  where
    small : (b : Bool) → b ≡ false → (if b then Err ends.TooManyStored else Ok (packed_with (levels_asked ns comp entries) (map (given_at entries) (levels_asked ns comp entries).coords)))
        ≡ Ok (packed_with (levels_asked ns comp entries) (map (given_at entries) (levels_asked ns comp entries).coords))
    small b e = rw e refl

pub packs_none : (ns : List ℕ) (comp : List Bool) (entries : List Given) → None ≡ first_offence ns entries → 1048576 < length (levels_asked ns comp entries).coords → pack_of ns comp entries ≡ Err ends.TooManyStored
unfolding pack_of
packs_none ns comp entries none many =
    ap (λ (o : Option PackEnd). packed_or o (packed_by ns comp entries (levels_asked ns comp entries).coords)) (sym none)
    ∙ ap (λ (b : Bool). if b then Err ends.TooManyStored else Ok (packed_with (levels_asked ns comp entries) (map (given_at entries) (levels_asked ns comp entries).coords))) (lt-ltb 1048576 (length (levels_asked ns comp entries).coords) many)

-- something is found where some item passes
place_any : (p : List ℕ → Bool) (xs : List (List ℕ)) → list_any p xs ≡ nat_lt (position_or_len p xs) (length xs)
place_any p [] = refl
place_any p (x ∷ xs) = by_test (p x) (place_any p xs)
  where
    step : (a b : ℕ) → nat_lt (1 + a) (suc b) ≡ nat_lt a b
    step a b = grind (arith, nat_tests)

    by_test : (b : Bool) → list_any p xs ≡ nat_lt (position_or_len p xs) (length xs)
        → (b || list_any p xs) ≡ nat_lt (cond (not b) (1 + position_or_len p xs) 0) (suc (length xs))
    by_test true e = sym (lt-ltb 0 (suc (length xs)) (omega arith))
    by_test false e = e ∙ sym (step (position_or_len p xs) (length xs))

some_place : (p : List ℕ → Bool) (xs : List (List ℕ)) → list_any p xs ≡ true → position p xs ≡ None → ⊥
some_place p xs h e = by_test (nat_lt (position_or_len p xs) (length xs)) (sym (place_any p xs) ∙ h) e
  where
    by_test : (b : Bool) → b ≡ true → cond b (Some (position_or_len p xs)) None ≡ None → ⊥
    by_test true t e = let bad : ◌≡◌ {A = Option ℕ} (Some (position_or_len p xs)) None = e in cc
    by_test false t e = cc

any_filter : (p q : List ℕ → Bool) (xs : List (List ℕ)) (k : ℕ) → k < length xs → p (get_or xs k []) ≡ true → q (get_or xs k []) ≡ true → list_any q (filter p xs) ≡ true
any_filter p q [] k h a b = absurd (omega arith)
any_filter p q (x ∷ xs) zero h a b = rw a (ap (λ (t : Bool). t || list_any q (filter p xs)) b)
any_filter p q (x ∷ xs) (suc k) h a b = by_test (p x) (any_filter p q xs k (omega arith) a b)
  where
    by_test : (t : Bool) → list_any q (filter p xs) ≡ true → list_any q (cond t (x ∷ filter p xs) (filter p xs)) ≡ true
    by_test false e = e
    by_test true e = or_right (q x) (list_any q (filter p xs)) e

-- an entry is followed by its own coordinates
followed_itself : (comp : List Bool) (entries : List Given) (c : List ℕ) → list_any (λ e. bytes_eq e.at c) entries ≡ true → is_followed comp (map (λ e. e.at) entries) c ≡ true
followed_itself comp entries c h =
    make_below (λ q. not (get_or comp q false) || list_any (begins (take (q + 1) c)) (map (λ e. e.at) entries)) (length c)
    (λ q l. or_right (not (get_or comp q false)) (list_any (begins (take (q + 1) c)) (map (λ e. e.at) entries)) (among q entries h))
  where
    itself : (q : ℕ) (d : List ℕ) → bytes_eq d c ≡ true → begins (take (q + 1) c) d ≡ true
    itself q d e = ap (begins (take (q + 1) c)) ((bytes_eq-Decides d c).0 e) ∙ (bytes_eq-Decides (take (length (take (q + 1) c)) c) (take (q + 1) c)).1 (again (q + 1) c)
      where
        again : (k : ℕ) (c : List ℕ) → take (length (take k c)) c ≡ take k c
        again zero c = refl
        again (suc k) [] = refl
        again (suc k) (x ∷ c) = ap (λ (l : List ℕ). x ∷ l) (again k c)

    among : (q : ℕ) (entries : List Given) → list_any (λ e. bytes_eq e.at c) entries ≡ true → list_any (begins (take (q + 1) c)) (map (λ e. e.at) entries) ≡ true
    among q [] h = h
    among q (e ∷ es) h = by_test (bytes_eq e.at c) refl h (λ k. among q es k)
      where
        by_test : (b : Bool) → bytes_eq e.at c ≡ b → (b || list_any (λ e. bytes_eq e.at c) es) ≡ true → (list_any (λ e. bytes_eq e.at c) es ≡ true → list_any (begins (take (q + 1) c)) (map (λ e. e.at) es) ≡ true)
            → (begins (take (q + 1) c) e.at || list_any (begins (take (q + 1) c)) (map (λ e. e.at) es)) ≡ true
        by_test true t k rest = ap (λ (x : Bool). x || list_any (begins (take (q + 1) c)) (map (λ e. e.at) es)) (itself q e.at t)
        by_test false t k rest = or_right (begins (take (q + 1) c) e.at) (list_any (begins (take (q + 1) c)) (map (λ e. e.at) es)) (rest k)

-- the whole tensor of what is packed has the entries' numbers
pub whole_given : (ns : List ℕ) (comp : List Bool) (entries : List Given) (t : StoredTensor) (values : List ℕ) → t ≡ levels_asked ns comp entries → values ≡ map (given_at entries) t.coords
    → whole_of (packed_with t values) ≡ given_whole ns entries
whole_given ns comp entries t values is same =
    ap (λ (vs : List ℕ). whole_of (packed_with t vs)) same
    ∙ ap (λ (s : StoredTensor). whole_of (packed_with s (map (given_at entries) s.coords))) is
    ∙ ap (λ (vs : List ℕ). whole_of_values vs) (same_lists (map number (assignments ns)) (map (given_at entries) (assignments ns)) (length-map (assignments ns) number ∙ sym (length-map (assignments ns) (given_at entries)))
    (λ k d h. let room : k < length (assignments ns) = omega (arith, length-map (assignments ns) number) in
    get_or-map number (assignments ns) k [] d room ∙ by_place (get_or (assignments ns) k []) k room refl (position (λ d. bytes_eq d (get_or (assignments ns) k [])) cs) refl ∙ sym (get_or-map (given_at entries) (assignments ns) k [] d room)))
  where
    cs : List (List ℕ)
    cs = stored_coords ns comp (map (λ e. e.at) entries)

    number : List ℕ → ℕ
    number c = number_in (packed_with (levels_asked ns comp entries) (map (given_at entries) cs)) c

    whole_of_values : List ℕ → WholeTensor
    whole_of_values vs = record { extents = ns; values = vs }

    by_place : (c : List ℕ) (k : ℕ) → k < length (assignments ns) → get_or (assignments ns) k [] ≡ c → (r : Option ℕ) → position (λ d. bytes_eq d c) cs ≡ r
        → unwrap_or (option_map (slice_index (map (given_at entries) cs)) (position (λ d. bytes_eq d c) cs)) 0 ≡ given_at entries c
    by_place c k h at (Some i) e = ap (λ (r : Option ℕ). unwrap_or (option_map (slice_index (map (given_at entries) cs)) r) 0) e ∙ value_there (given_at entries) cs c i 0 e
    by_place c k h at None e =
        ap (λ (r : Option ℕ). unwrap_or (option_map (slice_index (map (given_at entries) cs)) r) 0) e
        ∙ ap (λ (r : Option Given). unwrap_or (option_map (λ e. e.value) r) 0) (sym (nowhere e (find (λ e. bytes_eq e.at c) entries) refl))
      where
        nowhere : position (λ d. bytes_eq d c) cs ≡ None → (r : Option Given) → find (λ e. bytes_eq e.at c) entries ≡ r → r ≡ None
        nowhere missing None q = refl
        nowhere missing (Some e) q = absurd (
            let given : list_any (λ e. bytes_eq e.at c) entries ≡ true = sym (find_any (λ e. bytes_eq e.at c) entries) ∙ ap (λ (r : Option Given). is_some r) q in
            some_place (λ d. bytes_eq d c) cs
            (any_filter (is_followed comp (map (λ e. e.at) entries)) (λ d. bytes_eq d c) (assignments ns) k h (ap (is_followed comp (map (λ e. e.at) entries)) at ∙ followed_itself comp entries c given)
            (ap (λ (d : List ℕ). bytes_eq d c) at ∙ bytes_eq-same c)) missing)

-- how many indices are behind a front
pub cut_quotient : (ns : List ℕ) (d : ℕ) → 0 < product (take d ns) → product ns / product (take d ns) ≡ product (drop d ns)
cut_quotient ns d pos =
    ap (λ (n : ℕ). n / product (take d ns)) (product_cut ns d ∙ turned (product (take d ns)) (product (drop d ns))) ∙ div-mul-add (product (drop d ns)) (product (take d ns)) 0 pos
  where
    turned : (a b : ℕ) → a * b ≡ b * a + 0
    turned a b = omega arith

-- a count passes a quotient where its product passes the number
pub over_is : (m k s : ℕ) → 0 < s → nat_lt (m / s) k ≡ nat_lt m (k * s)
over_is m k s pos = elim (cases_lt (m / s) k) [
  | inl lt ↦ lt-ltb (m / s) k lt ∙ sym (lt-ltb m (k * s) (above lt))
  | inr le ↦ le-ltb (m / s) k le ∙ sym (le-ltb m (k * s) (under le))
]
  where
    above : m / s < k → m < k * s
    above lt =
        let a : (m / s + 1) * s ≤ k * s = mul-le (m / s + 1) s k s (omega arith) (omega arith) in
        let b : (m / s + 1) * s ≡ m / s * s + s = omega arith in
        omega (arith, div-add-mod' m s, mod_below m s pos)

    under : k ≤ m / s → k * s ≤ m
    under le =
        let a : k * s ≤ m / s * s = mul-le k s (m / s) s le (omega arith) in
        omega (arith, div-add-mod' m s)

-- the parts of the levels with these fronts
pub cut_of : (ns : List ℕ) (comp : List Bool) (d s : ℕ) (fs : List ℕ) (level : List (List ℕ)) → FrontFacts ns comp fs → d ≡ depth_of comp → s ≡ product (drop d ns)
    → IsStrictlyIncreasing fs → length fs * s ≤ 1048576 → level ≡ fs ∷ [] → IsCut ns comp d s level
cut_of ns comp d s fs level facts depth size up few is = subst (λ (l : List (List ℕ)). IsCut ns comp d s l) (sym is) (record {
  depth = depth;
  size = size;
  root = refl;
  ascending = up;
  within = subst (λ (k : ℕ). All (λ f. f < product (take k ns)) fs) (sym depth) facts.within;
  stored = facts.stored;
  few = subst (λ (n : ℕ). n ≤ 1048576) (sym (front_count ns comp d s fs facts depth size)) few;
})
