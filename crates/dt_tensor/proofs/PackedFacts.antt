-- What the parts of levels with stored fronts say.
use Rattle.std.proofs.Common.{◌≡◌, ℕ, zero, suc, ◌+◌, ◌-◌, ◌*◌, ◌/◌, ◌%◌, ◌<◌, ◌≤◌, ◌==◌, ◌^◌, List, [], ◌∷◌, ◌++◌, length, get_or, take, drop, map, replicate, refl, ap, sym, ◌∙◌, subst, arith, Option, Some, None, IsSome, option_map, is_some, Bool, true, false, cond, ◌&&◌, nat_le, nat_lt}
use Rattle.std.specs.List.{AllByRecursion, All, list_all, list_any, find, position, zip}
use Rattle.std.specs.List.Sorted.{IsStrictlyIncreasing}
use Rattle.std.proofs.lemmas.Bool.{and_parts, and_from, le-leb, leb-true}
use Rattle.std.proofs.lemmas.List.{length-map, get_or-map, get_or-take, take-append-drop, take-take, length-take-le, length-drop}
use Rattle.std.proofs.lemmas.List.Elements.{All-get_or}
use Rattle.std.proofs.lemmas.List.Folds.{list_all-append}
use Rattle.std.proofs.lemmas.List.Quantifiers.{position-Some}
use Rattle.std.specs.Str.{bytes_eq}
use Rattle.std.proofs.lemmas.Nat.{mul-le, mul-add-lt, mod_below, div_below}
use Rattle.dt_base.specs.Rows.{product, row_major}
use Rattle.dt_base.proofs.Assignments.{assignment-row_major}
use Rattle.dt_base.proofs.Rows.{product-take-le, product_more, row_major-below}
use Rattle.dt_level.specs.Levels.{children_of, find_child}
use Rattle.dt_model.specs.Positions.{StoredTensor, coords_at, place_in, is_front, is_stored_prefix, next_child_of}
use Rattle.dt_model.specs.Shape.{dims, is_extent, are_extents, IsShape}
use Rattle.dt_model.specs.declared.shape.Shape.{Shape}
use Rattle.dt_model.proofs.ShapeFacts.{extent_facts, shape_facts}
use Rattle.dt_tensor.specs.Packed.{index_at, levels_with, numbers_behind, depth_of, IsCut}
use Rattle.dt_tensor.proofs.BehindFronts.{length-behind, behind_read, place_behind, nowhere_behind}
use Rattle.dt_tensor.proofs.Depths.{depth_is, depth_front, depth_reaches}
use Rattle.dt_tensor.proofs.FrontSearch.{find_any, in_range}
use Rattle.dt_tensor.proofs.IndexNumbers.{product_cut}
use Rattle.dt_tensor.proofs.NextChildren.{IsAsked, next_none, next_found, next_past, next_outside, next_dense, next_unstored}
use Rattle.dt_tensor.proofs.StoredFronts.{product-drop-positive, within_behind, place_by_number, place_outside, prefix_deep, prefix_dense, is_front_test}

-- the extents of a shape pass their test
pub shape_extents : (s : Shape) → IsShape s → are_extents (dims s) ≡ true
shape_extents s h = by_test (record { order = length (dims s); extents = dims s ++ replicate (4 - length (dims s)) 1 }) s (are_extents (dims s)) h
  where
    by_test : (x y : Shape) (b : Bool) → cond b (Some x) None ≡ Some y → b ≡ true
    by_test x y true h = refl
    by_test x y false h = cc

-- and so do some of them
extents_parts : (ns : List ℕ) → are_extents ns ≡ true → (list_all is_extent ns ≡ true)
extents_parts ns h = (and_parts (nat_le (length ns) 4) (list_all is_extent ns) (and_parts (nat_le (length ns) 4 && list_all is_extent ns) (nat_le (product ns) 16777216) h).0).1

make_extents : (ns : List ℕ) → length ns ≤ 4 → list_all is_extent ns ≡ true → product ns ≤ 16777216 → are_extents ns ≡ true
make_extents ns few all small =
    and_from (nat_le (length ns) 4 && list_all is_extent ns) (nat_le (product ns) 16777216)
    (and_from (nat_le (length ns) 4) (list_all is_extent ns) (le-leb (length ns) 4 few) all) (le-leb (product ns) 16777216 small)

pub extents_take : (ns : List ℕ) (k : ℕ) → are_extents ns ≡ true → are_extents (take k ns) ≡ true
extents_take ns k h =
    let f = extent_facts ns h in
    make_extents (take k ns) (le_trans (shorter k ns) f.few)
    (and_parts (list_all is_extent (take k ns)) (list_all is_extent (drop k ns)) (sym (list_all-append is_extent (take k ns) (drop k ns)) ∙ ap (list_all is_extent) (take-append-drop k ns) ∙ extents_parts ns h)).0
    (le_trans (product-take-le ns k f.each) f.size)
  where
    shorter : (k : ℕ) (ns : List ℕ) → length (take k ns) ≤ length ns
    shorter zero ns = omega arith
    shorter (suc k) [] = omega arith
    shorter (suc k) (n ∷ ns) = let h = shorter k ns in omega arith

    le_trans : {a b c : ℕ} → a ≤ b → b ≤ c → a ≤ c
    le_trans h k = omega arith

pub extents_drop : (ns : List ℕ) (k : ℕ) → are_extents ns ≡ true → are_extents (drop k ns) ≡ true
extents_drop ns k h =
    let f = extent_facts ns h in
    make_extents (drop k ns) (omega (arith, length-drop k ns, f.few))
    (and_parts (list_all is_extent (take k ns)) (list_all is_extent (drop k ns)) (sym (list_all-append is_extent (take k ns) (drop k ns)) ∙ ap (list_all is_extent) (take-append-drop k ns) ∙ extents_parts ns h)).1
    (small (product (take k ns)) (product (drop k ns)) (product ns) (product_cut ns k) (positive k ns f.each) f.size)
  where
    positive : (k : ℕ) (ns : List ℕ) → AllByRecursion (λ n. 1 ≤ n) ns → 1 ≤ product (take k ns)
    positive zero ns a = omega arith
    positive (suc k) [] a = omega arith
    positive (suc k) (n ∷ ns) a = let m : 1 * 1 ≤ n * product (take k ns) = mul-le 1 1 n (product (take k ns)) a.0 (positive k ns a.1) in omega arith

    small : (a b n : ℕ) → n ≡ a * b → 1 ≤ a → n ≤ 16777216 → b ≤ 16777216
    small a b n e pos h = let m : 1 * b ≤ a * b = mul-le 1 b a b pos (omega arith) in omega arith

pub extents_slice : (ns : List ℕ) (a b : ℕ) → are_extents ns ≡ true → are_extents (take b (drop a ns)) ≡ true
extents_slice ns a b h = extents_take (drop a ns) b (extents_drop ns a h)

-- the parts, with what a lawful shape adds
pub record CutFacts (ns : List ℕ) (comp : List Bool) (d s : ℕ) (level : List (List ℕ)) : Type 0 where
  pub each : AllByRecursion (λ n. 1 ≤ n) ns
  pub total : product ns ≤ 16777216
  pub room : 0 < s
  pub levels : length comp ≡ length ns
  pub behind : s ≡ product (drop (depth_of comp) ns)
  pub fronts : All (λ f. f < product (take (depth_of comp) ns)) (children_of level 0)
  pub up : IsStrictlyIncreasing (children_of level 0)
  pub numbers : All (λ p. p < product ns) (numbers_behind s (children_of level 0))
  pub coords : (levels_with ns comp (children_of level 0)).coords ≡ map (index_at ns) (numbers_behind s (children_of level 0))
  pub count : length (levels_with ns comp (children_of level 0)).coords ≡ length (children_of level 0) * s
  pub few : length (children_of level 0) * s ≤ 1048576
  pub root : 0 < length level

pub cut_facts : (ns : List ℕ) (comp : List Bool) (d s : ℕ) (level : List (List ℕ)) → are_extents ns ≡ true → IsCut ns comp d s level → CutFacts ns comp d s level
cut_facts ns comp d s level ext h =
    let f = extent_facts ns ext in
    let size : s ≡ product (drop (depth_of comp) ns) = h.size ∙ ap (λ (k : ℕ). product (drop k ns)) h.depth in
    let inside : All (λ f. f < product (take (depth_of comp) ns)) (children_of level 0) = subst (λ (k : ℕ). All (λ f. f < product (take k ns)) (children_of level 0)) h.depth h.within in
    let cs : (levels_with ns comp (children_of level 0)).coords ≡ map (index_at ns) (numbers_behind s (children_of level 0)) = ap (λ (k : ℕ). map (index_at ns) (numbers_behind k (children_of level 0))) (sym size) in
    let count : length (levels_with ns comp (children_of level 0)).coords ≡ length (children_of level 0) * s = ap length cs ∙ length-map (numbers_behind s (children_of level 0)) (index_at ns) ∙ length-behind s (children_of level 0) in
    record {
      each = f.each;
      total = f.size;
      room = subst (λ (k : ℕ). 0 < k) (sym size) (product-drop-positive ns (depth_of comp) f.each);
      levels = h.stored.levels;
      behind = size;
      fronts = inside;
      up = h.ascending;
      numbers = subst (λ (k : ℕ). All (λ p. p < product ns) (numbers_behind k (children_of level 0))) (sym size) (within_behind ns (depth_of comp) (children_of level 0) (product-drop-positive ns (depth_of comp) f.each) inside);
      coords = cs;
      count = count;
      few = omega (arith, count, h.few);
      root = omega (arith, h.root);
    }

-- the position of an index
pub place_some : (ns : List ℕ) (comp : List Bool) (d s : ℕ) (level : List (List ℕ)) (n i : ℕ) → CutFacts ns comp d s level → n < product ns → Some i ≡ find_child level 0 (n / s)
    → (i * s + n % s < 1048576) × (Some (i * s + n % s) ≡ place_in (levels_with ns comp (children_of level 0)) (index_at ns n))
place_some ns comp d s level n i f h e = by_place (position (λ y. y == n / s) (children_of level 0)) refl e
  where
    by_place : (r : Option ℕ) → position (λ y. y == n / s) (children_of level 0) ≡ r → Some i ≡ option_map (λ k. 0 + k) r
        → (i * s + n % s < 1048576) × (Some (i * s + n % s) ≡ place_in (levels_with ns comp (children_of level 0)) (index_at ns n))
    by_place None q e = absurd (cc)
    by_place (Some k) q e =
        let at : i ≡ 0 + k = cc in
        let here : position (λ y. y == n / s) (children_of level 0) ≡ Some i = q ∙ ap (λ (j : ℕ). Some j) (let w : k ≡ i = omega arith in w) in
        let place = place_behind s n i (children_of level 0) f.room f.up here in (
          bound (position-Some (λ y. y == n) (numbers_behind s (children_of level 0)) (i * s + n % s) 0 place).0,
          sym (ap (λ (cs : List (List ℕ)). position (λ d. bytes_eq d (index_at ns n)) cs) f.coords ∙ place_by_number ns (numbers_behind s (children_of level 0)) n f.numbers h ∙ place),
        )
      where
        bound : i * s + n % s < length (numbers_behind s (children_of level 0)) → i * s + n % s < 1048576
        bound lt = let l = length-behind s (children_of level 0) in let w = f.few in omega arith

pub place_none : (ns : List ℕ) (comp : List Bool) (d s : ℕ) (level : List (List ℕ)) (n : ℕ) → CutFacts ns comp d s level → n < product ns → None ≡ find_child level 0 (n / s)
    → None ≡ place_in (levels_with ns comp (children_of level 0)) (index_at ns n)
place_none ns comp d s level n f h e = by_place (position (λ y. y == n / s) (children_of level 0)) refl e
  where
    by_place : (r : Option ℕ) → position (λ y. y == n / s) (children_of level 0) ≡ r → None ≡ option_map (λ k. 0 + k) r
        → None ≡ place_in (levels_with ns comp (children_of level 0)) (index_at ns n)
    by_place (Some k) q e = absurd (cc)
    by_place None q e =
        sym (ap (λ (cs : List (List ℕ)). position (λ d. bytes_eq d (index_at ns n)) cs) f.coords ∙ place_by_number ns (numbers_behind s (children_of level 0)) n f.numbers h
        ∙ nowhere_behind s n (children_of level 0) f.room f.up q)

pub place_off : (ns : List ℕ) (comp : List Bool) (d s : ℕ) (level : List (List ℕ)) (c : List ℕ) → CutFacts ns comp d s level → row_major ns c ≡ None
    → None ≡ place_in (levels_with ns comp (children_of level 0)) c
place_off ns comp d s level c f none =
    sym (ap (λ (cs : List (List ℕ)). position (λ d. bytes_eq d c) cs) f.coords ∙ place_outside ns (numbers_behind s (children_of level 0)) c f.numbers none)

-- the index at a position
pub record PositionFacts (ns : List ℕ) (comp : List Bool) (s pos : ℕ) (fs : List ℕ) : Type 0 where
  pub front : pos / s < length fs
  pub within : get_or fs (pos / s) 0 * s + pos % s < product ns
  pub index : index_at ns (get_or fs (pos / s) 0 * s + pos % s) ≡ coords_at (levels_with ns comp fs) pos

pub position_facts : (ns : List ℕ) (comp : List Bool) (d s : ℕ) (level : List (List ℕ)) (pos : ℕ) → CutFacts ns comp d s level → pos < length (levels_with ns comp (children_of level 0)).coords
    → PositionFacts ns comp s pos (children_of level 0)
position_facts ns comp d s level pos f h =
    let fs = children_of level 0 in
    let room : pos < length (numbers_behind s fs) = omega (arith, f.count, length-behind s fs, h) in
    let read = behind_read s fs pos f.room room in
    record {
      front = read.0;
      within = subst (λ (n : ℕ). n < product ns) read.1 (All-get_or (λ p. p < product ns) (numbers_behind s fs) pos 0 room f.numbers);
      index = ap (index_at ns) (sym read.1) ∙ sym (get_or-map (index_at ns) (numbers_behind s fs) pos 0 [] room) ∙ ap (λ (cs : List (List ℕ)). get_or cs pos []) (sym f.coords);
    }

-- The range of numbers that a stored prefix is searched in.
pub record RangeFacts (ns : List ℕ) (comp : List Bool) (j v t : ℕ) : Type 0 where
  pub positive : 0 < t
  pub bound : (v + 1) * t ≤ 16777216

pub range_facts : (ns : List ℕ) (comp : List Bool) (j v : ℕ) → are_extents ns ≡ true → j ≤ depth_of comp → v < product (take j ns) → RangeFacts ns comp j v (product (take (depth_of comp - j) (drop j ns)))
range_facts ns comp j v ext le lt =
    let f = extent_facts ns ext in
    let rest = extent_facts (drop j ns) (extents_drop ns j ext) in
    let pos = taken (depth_of comp - j) (drop j ns) rest.each in
    record {
      positive = pos;
      bound =
          let a : (v + 1) * product (take (depth_of comp - j) (drop j ns)) ≤ product (take j ns) * product (drop j ns) = mul-le (v + 1) (product (take (depth_of comp - j) (drop j ns))) (product (take j ns)) (product (drop j ns)) (omega arith) (product-take-le (drop j ns) (depth_of comp - j) rest.each) in
          omega (arith, product_cut ns j, f.size);
    }
  where
    taken : (k : ℕ) (ns : List ℕ) → AllByRecursion (λ n. 1 ≤ n) ns → 0 < product (take k ns)
    taken zero ms a = omega arith
    taken (suc k) [] a = omega arith
    taken (suc k) (m ∷ ms) a = let p : 1 * 1 ≤ m * product (take k ms) = mul-le 1 1 m (product (take k ms)) a.0 (taken k ms a.1) in omega arith

-- whether a range has a front tells whether the prefix is stored
pub has_deep : (ns : List ℕ) (comp : List Bool) (d s : ℕ) (level : List (List ℕ)) (c : List ℕ) (j v t : ℕ) → CutFacts ns comp d s level → are_extents ns ≡ true
    → length c ≤ length ns → is_front ns c ≡ true → depth_of (take (length c) comp) ≡ j → 0 < j → row_major (take j ns) (take j c) ≡ Some v → t ≡ product (take (depth_of comp - j) (drop j ns))
    → is_some (find (λ f. nat_le (v * t) f && nat_lt f ((v + 1) * t)) (children_of level 0)) ≡ is_stored_prefix (levels_with ns comp (children_of level 0)) c
has_deep ns comp d s level c j v t f ext short front is pos e size =
    let deep : j ≤ depth_of comp = subst (λ (k : ℕ). k ≤ depth_of comp) is (depth_front comp (length c) (omega (arith, f.levels))) in
    let range = range_facts ns comp j v ext deep (row_major-below (take j ns) (take j c) v e) in
    let room : 0 < t = subst (λ (k : ℕ). 0 < k) (sym size) range.positive in
    find_any (λ f. nat_le (v * t) f && nat_lt f ((v + 1) * t)) (children_of level 0)
    ∙ same_tests (λ f. nat_le (v * t) f && nat_lt f ((v + 1) * t)) (λ f. f / t == v) (children_of level 0) (λ g. sym (in_range t v g room))
    ∙ ap (λ (k : ℕ). list_any (λ f. f / k == v) (children_of level 0)) size
    ∙ sym (prefix_deep ns comp (children_of level 0) c j v f.each f.levels f.fronts short front is pos deep e)
  where
    same_tests : (p q : ℕ → Bool) (xs : List ℕ) → ((x : ℕ) → p x ≡ q x) → list_any p xs ≡ list_any q xs
    same_tests p q [] h = refl
    same_tests p q (x ∷ xs) h = rw (h x, same_tests p q xs h) refl

pub depth_fits : (ns : List ℕ) (comp : List Bool) (d s : ℕ) (level : List (List ℕ)) → IsCut ns comp d s level → d ≤ length ns
depth_fits ns comp d s level h = omega (arith, h.depth, (depth_is comp).within, h.stored.levels)

-- What `has_prefix` knows of coordinates c with the depth j.
pub record HasFacts (t : StoredTensor) (c : List ℕ) (j : ℕ) (fs : List ℕ) : Type 0 where
  pub zero : j ≡ 0 → true ≡ is_stored_prefix t c
  pub deep : j ≤ depth_of t.compressed
  pub within : j ≡ length (take j c)
  pub fits : length (take j c) ≤ length t.extents
  pub number : (r : Option ℕ) → r ≡ row_major (take (length (take j c)) t.extents) (take j c) → r ≡ None → ⊥
  pub bound : (r : Option ℕ) (v z : ℕ) → r ≡ row_major (take (length (take j c)) t.extents) (take j c) → r ≡ Some v → z ≡ product (take (depth_of t.compressed - j) (drop j t.extents)) → (v + 1) * z ≤ 16777216
  pub positive : (z : ℕ) → z ≡ product (take (depth_of t.compressed - j) (drop j t.extents)) → 0 < z
  pub answer : (r : Option ℕ) (v z : ℕ) → (j ≡ 0 → ⊥) → r ≡ row_major (take (length (take j c)) t.extents) (take j c) → r ≡ Some v → z ≡ product (take (depth_of t.compressed - j) (drop j t.extents))
      → is_some (find (λ f. nat_le (v * z) f && nat_lt f ((v + 1) * z)) fs) ≡ is_stored_prefix t c

fronts_front : (ns c : List ℕ) (j : ℕ) → j ≤ length c → is_front ns c ≡ true → is_front ns (take j c) ≡ true
fronts_front ns c j le h =
    let parts = and_parts (nat_le (length c) (length ns)) (list_all (λ p. nat_lt p.0 p.1) (zip c ns)) h in
    let short = leb-true (length c) (length ns) parts.0 in
    and_from (nat_le (length (take j c)) (length ns)) (list_all (λ p. nat_lt p.0 p.1) (zip (take j c) ns)) (le-leb (length (take j c)) (length ns) (omega (arith, length-take-le j c le))) (some j c ns parts.1)
  where
    some : (j : ℕ) (c ns : List ℕ) → list_all (λ p. nat_lt p.0 p.1) (zip c ns) ≡ true → list_all (λ p. nat_lt p.0 p.1) (zip (take j c) ns) ≡ true
    some zero c [] h = refl
    some zero c (n ∷ ns) h = refl
    some (suc j) [] ns h = h
    some (suc j) (x ∷ c) [] h = refl
    some (suc j) (x ∷ c) (n ∷ ns) h =
        let p = and_parts (nat_lt x n) (list_all (λ p. nat_lt p.0 p.1) (zip c ns)) h in
        and_from (nat_lt x n) (list_all (λ p. nat_lt p.0 p.1) (zip (take j c) ns)) p.0 (some j c ns p.1)

pub has_facts : (shape : Shape) (compressed : List Bool) (d s : ℕ) (level : List (List ℕ)) (c ms : List ℕ) (j : ℕ) → IsShape shape → IsCut (dims shape) (take shape.order compressed) d s level
    → ms ≡ dims shape → is_front ms c ≡ true → j ≡ depth_of (take (length c) compressed)
    → HasFacts (levels_with (dims shape) (take shape.order compressed) (children_of level 0)) c j (children_of level 0)
has_facts shape compressed d s level c ms j lawful cut same inside depth = record {
  zero = λ z. sym (prefix_dense ns comp fs c (sym is ∙ z) ∙ front);
  deep = deep;
  within = sym (length-take-le j c within);
  fits = let e : length (take j c) ≤ length ns = omega (arith, length-take-le j c within, short, within) in e;
  number = λ r e none. absurd (let bad : is_some {T = ℕ} None ≡ true = ap (λ (o : Option ℕ). is_some o) (sym none ∙ e) ∙ sym (is_front_test ns (take j c) (omega (arith, length-take-le j c within, short, within))) ∙ fronts_front ns c j within front in cc);
  bound = λ r v z e some size. subst (λ (k : ℕ). (v + 1) * k ≤ 16777216) (sym size) (range_facts ns comp j v ext deep (row_major-below (take j ns) (take j c) v (at r v e some))).bound;
  positive = λ z size. subst (λ (k : ℕ). 0 < k) (sym size) (taken (depth_of comp - j) (drop j ns) (extent_facts (drop j ns) (extents_drop ns j ext)).each);
  answer = λ r v z no e some size. has_deep ns comp d s level c j v z facts ext short front (sym is) (omega (arith, no)) (at r v e some) size;
}
  where
    ns : List ℕ
    ns = dims shape

    comp : List Bool
    comp = take shape.order compressed

    fs : List ℕ
    fs = children_of level 0

    ext : are_extents ns ≡ true
    ext = shape_extents shape lawful

    facts : CutFacts ns comp d s level
    facts = cut_facts ns comp d s level ext cut

    front : is_front ns c ≡ true
    front = subst (λ (l : List ℕ). is_front l c ≡ true) same inside

    short : length c ≤ length ns
    short = leb-true (length c) (length ns) (and_parts (nat_le (length c) (length ns)) (list_all (λ p. nat_lt p.0 p.1) (zip c ns)) front).0

    is : j ≡ depth_of (take (length c) comp)
    is = depth ∙ ap (λ (l : List Bool). depth_of l) (sym (take-take (length c) shape.order compressed (omega (arith, short, (shape_facts shape lawful).used))))

    deep : j ≤ depth_of comp
    deep = subst (λ (k : ℕ). k ≤ depth_of comp) (sym is) (depth_front comp (length c) (omega (arith, facts.levels, short)))

    within : j ≤ length c
    within = omega (arith, is, (depth_is (take (length c) comp)).within, length-take-le (length c) comp (omega (arith, facts.levels, short)))

    at : (r : Option ℕ) (v : ℕ) → r ≡ row_major (take (length (take j c)) ns) (take j c) → r ≡ Some v → row_major (take j ns) (take j c) ≡ Some v
    at r v e some = ap (λ (k : ℕ). row_major (take k ns) (take j c)) (sym (length-take-le j c within)) ∙ sym e ∙ some

    taken : (k : ℕ) (ns : List ℕ) → AllByRecursion (λ n. 1 ≤ n) ns → 0 < product (take k ns)
    taken zero ms a = omega arith
    taken (suc k) [] a = omega arith
    taken (suc k) (m ∷ ms) a = let p : 1 * 1 ≤ m * product (take k ms) = mul-le 1 1 m (product (take k ms)) a.0 (taken k ms a.1) in omega arith

-- What `next_child` knows of a prefix c.
pub record NextFacts (t : StoredTensor) (c fs : List ℕ) (b : Bool) (n : ℕ) : Type 0 where
  pub past : (from : ℕ) → n ≤ from → None ≡ next_child_of t c from
  pub dense : (from : ℕ) → b ≡ false → from < n → is_stored_prefix t c ≡ true → Some from ≡ next_child_of t c from
  pub unstored : (from : ℕ) → b ≡ false → is_stored_prefix t c ≡ false → None ≡ next_child_of t c from
  pub outside : (from : ℕ) → row_major (take (length c) t.extents) c ≡ None → None ≡ next_child_of t c from
  pub deep : b ≡ true → length c + 1 ≤ depth_of t.compressed
  pub positive : (z : ℕ) → z ≡ product (take (depth_of t.compressed - (length c + 1)) (drop (length c + 1) t.extents)) → 0 < z
  pub bound : (v z : ℕ) → b ≡ true → row_major (take (length c) t.extents) c ≡ Some v → z ≡ product (take (depth_of t.compressed - (length c + 1)) (drop (length c + 1) t.extents)) → (v + 1) * n * z ≤ 16777216
  pub none : (from v z : ℕ) → b ≡ true → row_major (take (length c) t.extents) c ≡ Some v → z ≡ product (take (depth_of t.compressed - (length c + 1)) (drop (length c + 1) t.extents))
      → find (λ f. nat_le ((v * n + from) * z) f && nat_lt f ((v + 1) * n * z)) fs ≡ None → None ≡ next_child_of t c from
  pub found : (from v z f : ℕ) → b ≡ true → row_major (take (length c) t.extents) c ≡ Some v → z ≡ product (take (depth_of t.compressed - (length c + 1)) (drop (length c + 1) t.extents))
      → find (λ f. nat_le ((v * n + from) * z) f && nat_lt f ((v + 1) * n * z)) fs ≡ Some f → (v * n ≤ f / z) × (Some (f / z - v * n) ≡ next_child_of t c from)

pub next_facts : (shape : Shape) (compressed : List Bool) (d s : ℕ) (level : List (List ℕ)) (c : List ℕ) (b : Bool) (n : ℕ) → IsShape shape → IsCut (dims shape) (take shape.order compressed) d s level
    → length c < length (dims shape) → b ≡ get_or compressed (length c) false → n ≡ get_or (dims shape) (length c) 0
    → NextFacts (levels_with (dims shape) (take shape.order compressed) (children_of level 0)) c (children_of level 0) b n
next_facts shape compressed d s level c b n lawful cut shorter flag size = record {
  past = λ from le. next_past ns comp fs c from (subst (λ (m : ℕ). m ≤ from) size le);
  dense = λ from no lt stored. next_dense ns comp fs c from facts.levels shorter (kind ∙ no) stored (subst (λ (m : ℕ). from < m) size lt);
  unstored = λ from no un. next_unstored ns comp fs c from facts.levels shorter (kind ∙ no) un;
  outside = λ from none. next_outside ns comp fs c from shorter none;
  deep = λ on. deep on;
  positive = λ z e. positive z e;
  bound = λ v z on e small. fits v z on e small;
  none = λ from v z on e small out. next_none ns comp fs c v n z from (asked v z on e small) out;
  found = λ from v z f on e small out. next_found ns comp fs c v n z from f (asked v z on e small) out;
}
  where
    ns : List ℕ
    ns = dims shape

    comp : List Bool
    comp = take shape.order compressed

    fs : List ℕ
    fs = children_of level 0

    ext : are_extents ns ≡ true
    ext = shape_extents shape lawful

    facts : CutFacts ns comp d s level
    facts = cut_facts ns comp d s level ext cut

    kind : get_or comp (length c) false ≡ b
    kind = get_or-take shape.order compressed (length c) false (omega (arith, shorter, (shape_facts shape lawful).used)) ∙ sym flag

    deep : b ≡ true → length c + 1 ≤ depth_of comp
    deep on = let h = depth_reaches comp (length c) (kind ∙ on) in omega arith

    positive : (z : ℕ) → z ≡ product (take (depth_of comp - (length c + 1)) (drop (length c + 1) ns)) → 0 < z
    positive z e = subst (λ (k : ℕ). 0 < k) (sym e) (taken (depth_of comp - (length c + 1)) (drop (length c + 1) ns) (extent_facts (drop (length c + 1) ns) (extents_drop ns (length c + 1) ext)).each)
      where
        taken : (k : ℕ) (ns : List ℕ) → AllByRecursion (λ n. 1 ≤ n) ns → 0 < product (take k ns)
        taken zero ms a = omega arith
        taken (suc k) [] a = omega arith
        taken (suc k) (m ∷ ms) a = let p : 1 * 1 ≤ m * product (take k ms) = mul-le 1 1 m (product (take k ms)) a.0 (taken k ms a.1) in omega arith

    asked : (v z : ℕ) → b ≡ true → row_major (take (length c) ns) c ≡ Some v → z ≡ product (take (depth_of comp - (length c + 1)) (drop (length c + 1) ns)) → IsAsked ns comp fs c v n z
    asked v z on e small = record {
      each = facts.each;
      levels = facts.levels;
      up = facts.up;
      inside = facts.fronts;
      shorter = shorter;
      level = kind ∙ on;
      number = e;
      extent = size;
      size = small;
    }

    fits : (v z : ℕ) → b ≡ true → row_major (take (length c) ns) c ≡ Some v → z ≡ product (take (depth_of comp - (length c + 1)) (drop (length c + 1) ns)) → (v + 1) * n * z ≤ 16777216
    fits v z on e small =
        let lt : v < product (take (length c) ns) = row_major-below (take (length c) ns) c v e in
        let more : product (take (length c + 1) ns) ≡ product (take (length c) ns) * n = product_more ns (length c) shorter ∙ ap (λ (m : ℕ). product (take (length c) ns) * m) (sym size) in
        let a : (v + 1) * n ≤ product (take (length c) ns) * n = mul-le (v + 1) n (product (take (length c) ns)) n (omega arith) (omega arith) in
        let tail : product (take (depth_of comp - (length c + 1)) (drop (length c + 1) ns)) ≤ product (drop (length c + 1) ns) = product-take-le (drop (length c + 1) ns) (depth_of comp - (length c + 1)) (extent_facts (drop (length c + 1) ns) (extents_drop ns (length c + 1) ext)).each in
        let m : (v + 1) * n * z ≤ product (take (length c + 1) ns) * product (drop (length c + 1) ns) = mul-le ((v + 1) * n) z (product (take (length c + 1) ns)) (product (drop (length c + 1) ns)) (omega (arith, more, a)) (omega (arith, small, tail)) in
        omega (arith, m, product_cut ns (length c + 1), facts.total)

-- the numbers of a range that ends low are low
pub record RangeBounds (v n z from : ℕ) : Type 0 where
  pub row : v * n ≤ 16777216
  pub first : v * n + from ≤ 16777216
  pub start : (v * n + from) * z ≤ 16777216
  pub next : v + 1 ≤ 16777216
  pub rows : (v + 1) * n ≤ 16777216
  pub end : (v + 1) * n * z ≤ 16777216

pub range_bounds : (v n z from : ℕ) → (v + 1) * n * z ≤ 16777216 → 0 < z → from < n → RangeBounds v n z from
range_bounds v n z from h pos lt =
    let rows : (v + 1) * n * 1 ≤ (v + 1) * n * z = mul-le ((v + 1) * n) 1 ((v + 1) * n) z (omega arith) pos in
    let whole : (v + 1) * n ≡ v * n + n = omega arith in
    let next : (v + 1) * 1 ≤ (v + 1) * n = mul-le (v + 1) 1 (v + 1) n (omega arith) (omega arith) in
    let start : (v * n + from) * z ≤ (v + 1) * n * z = mul-le (v * n + from) z ((v + 1) * n) z (omega arith) (omega arith) in
    record { row = omega arith; first = omega arith; start = omega arith; next = omega arith; rows = omega arith; end = h }
