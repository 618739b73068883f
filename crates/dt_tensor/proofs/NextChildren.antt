-- The next coordinate behind a stored prefix.
use Rattle.std.proofs.Common.{◌≡◌, ℕ, zero, suc, ◌+◌, ◌-◌, ◌*◌, ◌/◌, ◌<◌, ◌≤◌, ◌==◌, List, [], ◌∷◌, ◌++◌, length, get_or, take, drop, refl, ap, ap₂, sym, ◌∙◌, subst, arith, Option, Some, None, is_some, Bool, true, false, ◌&&◌, nat_le, nat_lt, inl, inr, ◌⊎◌}
use Rattle.std.specs.List.{All, AllByRecursion, find, list_any}
use Rattle.std.specs.List.Sorted.{IsStrictlyIncreasing}
use Rattle.std.proofs.lemmas.Bool.{cases_lt, lt-ltb, le-leb, lt-leb, and_from, and_left, and_right, and_parts, leb-true, ltb-true, eqb-true, false_from_ne_true}
use Rattle.std.proofs.lemmas.List.{take_more, take_all, length_push}
use Rattle.std.proofs.lemmas.List.Folds.{Any-from_list_any, list_any_at}
use Rattle.std.proofs.lemmas.Bool.Decides.{eqb_tells}
use Rattle.std.proofs.lemmas.Nat.{div_below, le-div, mul-le, div-add-mod'}
use Rattle.dt_base.specs.Ranges.{below}
use Rattle.dt_base.specs.Rows.{product, row_major}
use Rattle.dt_base.proofs.Firsts.{find-below-none, find-below-some}
use Rattle.dt_model.specs.Positions.{is_front, is_stored_prefix, next_child_of}
use Rattle.dt_tensor.specs.Packed.{depth_of, levels_with}
use Rattle.dt_tensor.proofs.Depths.{depth_compressed, depth_reaches, followed_more}
use Rattle.dt_tensor.proofs.FrontSearch.{IsLeast, find_any, in_range, found_least}
use Rattle.dt_tensor.proofs.Prefixes.{is_front-push}
use Rattle.dt_tensor.proofs.StoredFronts.{product-drop-positive, is_front_test, row_major-push, prefix_deep}

-- the levels, and a prefix with a number whose next level is compressed
pub record IsAsked (ns : List ℕ) (comp : List Bool) (fs c : List ℕ) (v n t : ℕ) : Type 0 where
  pub each : AllByRecursion (λ n. 1 ≤ n) ns
  pub levels : length comp ≡ length ns
  pub up : IsStrictlyIncreasing fs
  pub inside : All (λ f. f < product (take (depth_of comp) ns)) fs
  pub shorter : length c < length ns
  pub level : get_or comp (length c) false ≡ true
  pub number : row_major (take (length c) ns) c ≡ Some v
  pub extent : n ≡ get_or ns (length c) 0
  pub size : t ≡ product (take (depth_of comp - (length c + 1)) (drop (length c + 1) ns))

-- a longer prefix is stored where a front of its number is
pub longer_is : (ns : List ℕ) (comp : List Bool) (fs c : List ℕ) (v n t x : ℕ) → IsAsked ns comp fs c v n t → x < n
    → is_stored_prefix (levels_with ns comp fs) (c ++ x ∷ []) ≡ list_any (λ f. f / t == v * n + x) fs
longer_is ns comp fs c v n t x a lt =
    prefix_deep ns comp fs (c ++ x ∷ []) (length c + 1) (v * n + x) a.each a.levels a.inside (omega (arith, length_push c x, a.shorter)) front
    (ap (λ (m : ℕ). depth_of (take m comp)) (length_push c x) ∙ depth_compressed comp (length c) (omega (arith, a.shorter, a.levels)) a.level)
    (omega arith) (let deep = depth_reaches comp (length c) a.level in omega arith) number
    ∙ ap (λ (m : ℕ). list_any (λ f. f / m == v * n + x) fs) (sym a.size)
  where
    below_extent : x < get_or ns (length c) 0
    below_extent = subst (λ (m : ℕ). x < m) a.extent lt

    front : is_front ns (c ++ x ∷ []) ≡ true
    front =
        is_front-push ns c x a.shorter
        ∙ and_from (is_front ns c) (nat_lt x (get_or ns (length c) 0)) (is_front_test ns c (omega (arith, a.shorter)) ∙ ap (λ (r : Option ℕ). is_some r) a.number) (lt-ltb x (get_or ns (length c) 0) below_extent)

    number : row_major (take (length c + 1) ns) (take (length c + 1) (c ++ x ∷ [])) ≡ Some (v * n + x)
    number =
        ap (λ (d : List ℕ). row_major (take (length c + 1) ns) d) (take_all (length c + 1) (c ++ x ∷ []) (omega (arith, length_push c x)))
        ∙ ap (λ (ms : List ℕ). row_major ms (c ++ x ∷ [])) (take_more ns (length c) 0 a.shorter ∙ ap (λ (m : ℕ). take (length c) ns ++ m ∷ []) (sym a.extent))
        ∙ row_major-push (take (length c) ns) c n x v a.number lt

positive : (ns : List ℕ) (comp : List Bool) (fs c : List ℕ) (v n t : ℕ) → IsAsked ns comp fs c v n t → 0 < t
positive ns comp fs c v n t a = subst (λ (m : ℕ). 0 < m) (sym a.size) (taken (depth_of comp - (length c + 1)) (drop (length c + 1) ns) (dropped (length c + 1) ns a.each))
  where
    dropped : (k : ℕ) (ns : List ℕ) → AllByRecursion (λ n. 1 ≤ n) ns → AllByRecursion (λ n. 1 ≤ n) (drop k ns)
    dropped zero ns a = a
    dropped (suc k) [] a = tt
    dropped (suc k) (n ∷ ns) a = dropped k ns a.1

    taken : (k : ℕ) (ns : List ℕ) → AllByRecursion (λ n. 1 ≤ n) ns → 0 < product (take k ns)
    taken zero ns a = omega arith
    taken (suc k) [] a = omega arith
    taken (suc k) (n ∷ ns) a = let h = taken k ns a.1 in mul-pos a.0 h
      where
        mul-pos : {a b : ℕ} → 1 ≤ a → 0 < b → 0 < a * b
        mul-pos {a} {b} h k = let m : 1 * 1 ≤ a * b = mul-le 1 1 a b h k in omega arith

-- the numbers of the prefix with a coordinate lie in the range that is searched
searched : (t v n from j g : ℕ) → 0 < t → from ≤ j → j < n → (g / t == v * n + j) ≡ true → (nat_le ((v * n + from) * t) g && nat_lt g ((v + 1) * n * t)) ≡ true
searched t v n from j g pos le lt e =
    let inside = and_parts (nat_le ((v * n + j) * t) g) (nat_lt g ((v * n + j + 1) * t)) (sym (in_range t (v * n + j) g pos) ∙ e) in
    let low : (v * n + j) * t ≤ g = leb-true ((v * n + j) * t) g inside.0 in
    let high : g < (v * n + j + 1) * t = ltb-true g ((v * n + j + 1) * t) inside.1 in
    let first : (v * n + from) * t ≤ (v * n + j) * t = mul-le (v * n + from) t (v * n + j) t (omega arith) (omega arith) in
    let whole : (v + 1) * n ≡ v * n + n = omega arith in
    let last : (v * n + j + 1) * t ≤ (v + 1) * n * t = mul-le (v * n + j + 1) t ((v + 1) * n) t (omega arith) (omega arith) in
    and_from (nat_le ((v * n + from) * t) g) (nat_lt g ((v + 1) * n * t)) (le-leb ((v * n + from) * t) g (omega arith)) (lt-ltb g ((v + 1) * n * t) (omega arith))

-- nothing in the range: no coordinate
pub next_none : (ns : List ℕ) (comp : List Bool) (fs c : List ℕ) (v n t from : ℕ) → IsAsked ns comp fs c v n t
    → find (λ f. nat_le ((v * n + from) * t) f && nat_lt f ((v + 1) * n * t)) fs ≡ None → None ≡ next_child_of (levels_with ns comp fs) c from
next_none ns comp fs c v n t from a e =
    sym (find-below-none (λ x. nat_le from x && is_stored_prefix (levels_with ns comp fs) (c ++ x ∷ [])) (get_or ns (length c) 0) (λ j lt. false_from_ne_true _ (λ both. no j (subst (λ (m : ℕ). j < m) (sym a.extent) lt) (and_parts (nat_le from j) (is_stored_prefix (levels_with ns comp fs) (c ++ j ∷ [])) both))))
  where
    range : ℕ → Bool
    range f = nat_le ((v * n + from) * t) f && nat_lt f ((v + 1) * n * t)

    no : (j : ℕ) → j < n → (nat_le from j ≡ true) × (is_stored_prefix (levels_with ns comp fs) (c ++ j ∷ []) ≡ true) → ⊥
    no j lt both =
        let some = Any-from_list_any (λ f. f / t == v * n + j) fs (sym (longer_is ns comp fs c v n t j a lt) ∙ both.1) in
        let here : list_any range fs ≡ true = list_any_at range fs some.0 some.1 some.2 (ap range some.3 ∙ searched t v n from j some.1 (positive ns comp fs c v n t a) (leb-true from j both.0) lt some.4) in
        let f : false ≡ true = sym (ap (λ (r : Option ℕ). is_some r) e) ∙ find_any range fs ∙ here in
        cc

-- the least front of the range has the next coordinate
pub next_found : (ns : List ℕ) (comp : List Bool) (fs c : List ℕ) (v n t from f : ℕ) → IsAsked ns comp fs c v n t
    → find (λ f. nat_le ((v * n + from) * t) f && nat_lt f ((v + 1) * n * t)) fs ≡ Some f
    → (v * n ≤ f / t) × (Some (f / t - v * n) ≡ next_child_of (levels_with ns comp fs) c from)
next_found ns comp fs c v n t from f a e = (omega (arith, low), sym (find-below-some test (get_or ns (length c) 0) (f / t - v * n) (subst (λ (m : ℕ). f / t - v * n < m) a.extent under) here before))
  where
    test : ℕ → Bool
    test x = nat_le from x && is_stored_prefix (levels_with ns comp fs) (c ++ x ∷ [])

    range : ℕ → Bool
    range f = nat_le ((v * n + from) * t) f && nat_lt f ((v + 1) * n * t)

    pos : 0 < t
    pos = positive ns comp fs c v n t a

    least : IsLeast fs range f
    least = found_least fs range f a.up e

    ends : (nat_le ((v * n + from) * t) f ≡ true) × (nat_lt f ((v + 1) * n * t) ≡ true)
    ends = and_parts (nat_le ((v * n + from) * t) f) (nat_lt f ((v + 1) * n * t)) least.passes

    low : v * n + from ≤ f / t
    low = le-div (v * n + from) f t pos (leb-true ((v * n + from) * t) f ends.0)

    high : f / t < (v + 1) * n
    high = div_below f t ((v + 1) * n) pos (ltb-true f ((v + 1) * n * t) ends.1)

    under : f / t - v * n < n
    under = let whole : (v + 1) * n ≡ v * n + n = omega arith in omega (arith, low, high)

    quotient : v * n + (f / t - v * n) ≡ f / t
    quotient = omega (arith, low)

    here : test (f / t - v * n) ≡ true
    here =
        and_from (nat_le from (f / t - v * n)) (is_stored_prefix (levels_with ns comp fs) (c ++ (f / t - v * n) ∷ [])) (le-leb from (f / t - v * n) (omega (arith, low)))
        (longer_is ns comp fs c v n t (f / t - v * n) a under ∙ least.among (λ g. g / t == v * n + (f / t - v * n)) (same (f / t) (v * n + (f / t - v * n)) (sym quotient)))
      where
        same : (x y : ℕ) → x ≡ y → (x == y) ≡ true
        same x y h = elim (eqb_tells x y) [ inl k ↦ k.0 | inr k ↦ absurd (k.1 h) ]

    before : (j : ℕ) → j < f / t - v * n → test j ≡ false
    before j lt = false_from_ne_true (test j) (λ both. no (and_parts (nat_le from j) (is_stored_prefix (levels_with ns comp fs) (c ++ j ∷ [])) both))
      where
        no : (nat_le from j ≡ true) × (is_stored_prefix (levels_with ns comp fs) (c ++ j ∷ []) ≡ true) → ⊥
        no both =
            least.first (λ g. g / t == v * n + j) (sym (longer_is ns comp fs c v n t j a (omega (arith, under))) ∙ both.1)
            (λ g q. (searched t v n from j g pos (leb-true from j both.0) (omega (arith, under)) q, less g q))
          where
            less : (g : ℕ) → (g / t == v * n + j) ≡ true → g < f
            less g q =
                let is : g / t ≡ v * n + j = eqb-true (g / t) (v * n + j) q in
                elim (cases_lt g f) [ inl h ↦ h | inr ge ↦ absurd (let up : f / t ≤ g / t = le-div (f / t) g t pos (let w = div-add-mod' f t in omega arith) in omega (arith, low)) ]

-- no coordinate from the extent on
pub next_past : (ns : List ℕ) (comp : List Bool) (fs c : List ℕ) (from : ℕ) → get_or ns (length c) 0 ≤ from → None ≡ next_child_of (levels_with ns comp fs) c from
next_past ns comp fs c from past =
    sym (find-below-none (λ x. nat_le from x && is_stored_prefix (levels_with ns comp fs) (c ++ x ∷ [])) (get_or ns (length c) 0)
    (λ j less. and_left (nat_le from j) (is_stored_prefix (levels_with ns comp fs) (c ++ j ∷ [])) (lt-leb from j (omega arith))))

-- none behind what is no front
pub next_outside : (ns : List ℕ) (comp : List Bool) (fs c : List ℕ) (from : ℕ) → length c < length ns → row_major (take (length c) ns) c ≡ None → None ≡ next_child_of (levels_with ns comp fs) c from
next_outside ns comp fs c from h none =
    sym (find-below-none (λ x. nat_le from x && is_stored_prefix (levels_with ns comp fs) (c ++ x ∷ [])) (get_or ns (length c) 0)
    (λ j less. and_right (nat_le from j) (is_stored_prefix (levels_with ns comp fs) (c ++ j ∷ []))
    (and_left (is_front ns (c ++ j ∷ [])) _
    (is_front-push ns c j h ∙ and_left (is_front ns c) (nat_lt j (get_or ns (length c) 0)) (is_front_test ns c (omega arith) ∙ ap (λ (r : Option ℕ). is_some r) none)))))

-- at a dense level each coordinate follows a stored prefix
dense_more : (ns : List ℕ) (comp : List Bool) (fs c : List ℕ) (x : ℕ) → length comp ≡ length ns → length c < length ns → get_or comp (length c) false ≡ false
    → is_stored_prefix (levels_with ns comp fs) (c ++ x ∷ []) ≡ (is_stored_prefix (levels_with ns comp fs) c && nat_lt x (get_or ns (length c) 0))
dense_more ns comp fs c x levels h dense =
    let t = levels_with ns comp fs in
    ap₂ (λ (a b : Bool). a && b) (is_front-push ns c x h) (followed_more comp t.coords c x (omega arith) dense) ∙ turned (is_front ns c) (nat_lt x (get_or ns (length c) 0)) _
  where
    turned : (a b d : Bool) → ((a && b) && d) ≡ ((a && d) && b)
    turned true true d = last d
      where
        last : (d : Bool) → d ≡ (d && true)
        last true = refl
        last false = refl
    turned true false d = last d
      where
        last : (d : Bool) → false ≡ (d && false)
        last true = refl
        last false = refl
    turned false b d = refl

pub next_dense : (ns : List ℕ) (comp : List Bool) (fs c : List ℕ) (from : ℕ) → length comp ≡ length ns → length c < length ns → get_or comp (length c) false ≡ false
    → is_stored_prefix (levels_with ns comp fs) c ≡ true → from < get_or ns (length c) 0 → Some from ≡ next_child_of (levels_with ns comp fs) c from
next_dense ns comp fs c from levels h dense stored lt =
    sym (find-below-some (λ x. nat_le from x && is_stored_prefix (levels_with ns comp fs) (c ++ x ∷ [])) (get_or ns (length c) 0) from lt
    (and_from (nat_le from from) (is_stored_prefix (levels_with ns comp fs) (c ++ from ∷ [])) (le-leb from from (omega arith))
    (dense_more ns comp fs c from levels h dense ∙ and_from (is_stored_prefix (levels_with ns comp fs) c) (nat_lt from (get_or ns (length c) 0)) stored (lt-ltb from (get_or ns (length c) 0) lt)))
    (λ j less. and_left (nat_le from j) (is_stored_prefix (levels_with ns comp fs) (c ++ j ∷ [])) (lt-leb from j less)))

pub next_unstored : (ns : List ℕ) (comp : List Bool) (fs c : List ℕ) (from : ℕ) → length comp ≡ length ns → length c < length ns → get_or comp (length c) false ≡ false
    → is_stored_prefix (levels_with ns comp fs) c ≡ false → None ≡ next_child_of (levels_with ns comp fs) c from
next_unstored ns comp fs c from levels h dense unstored =
    sym (find-below-none (λ x. nat_le from x && is_stored_prefix (levels_with ns comp fs) (c ++ x ∷ [])) (get_or ns (length c) 0)
    (λ j less. and_right (nat_le from j) (is_stored_prefix (levels_with ns comp fs) (c ++ j ∷ []))
    (dense_more ns comp fs c j levels h dense ∙ and_left (is_stored_prefix (levels_with ns comp fs) c) (nat_lt j (get_or ns (length c) 0)) unstored)))
