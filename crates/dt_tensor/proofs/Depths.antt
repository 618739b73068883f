-- Only the last compressed level counts: coordinates are stored where their front up to there begins an entry.
use Rattle.std.proofs.Common.{◌≡◌, ℕ, zero, suc, ◌+◌, ◌<◌, ◌≤◌, ◌-◌, List, [], ◌∷◌, ◌++◌, length, get_or, take, refl, ap, sym, ◌∙◌, subst, arith, Bool, true, false, ◌||◌, not, inl, inr, ◌⊎◌}
use Rattle.std.specs.List.{Any, list_all, list_any}
use Rattle.std.specs.Str.{bytes_eq}
use Rattle.std.proofs.lemmas.Bool.{and_parts, and_from, cases_lt, or_right}
use Rattle.std.proofs.lemmas.List.{length-take-le, take-take, get_or-take, get_or_past, length_push, take-append-le}
use Rattle.std.proofs.lemmas.List.Folds.{Any-from_list_any, list_any_at, list_all-append}
use Rattle.std.proofs.lemmas.Slice.Eq.{bytes_eq-Decides}
use Rattle.dt_base.specs.Ranges.{below}
use Rattle.dt_base.proofs.Filters.{same_truth}
use Rattle.dt_model.specs.Positions.{begins, is_followed}
use Rattle.dt_tensor.specs.Packed.{deeper, depth_of}

-- what the depth says of the levels
pub record IsDepth (comp : List Bool) (d : ℕ) : Type 0 where
  pub within : d ≤ length comp
  pub last : (q : ℕ) → q + 1 ≡ d → get_or comp q false ≡ true
  pub dense : (q : ℕ) → d ≤ q → get_or comp q false ≡ false

nothing : (q : ℕ) → get_or {A = Bool} [] q false ≡ false
nothing zero = refl
nothing (suc q) = refl

pub depth_is : (comp : List Bool) → IsDepth comp (depth_of comp)
depth_is [] = record { within = omega arith; last = λ q h. absurd (omega arith); dense = λ q h. nothing q }
depth_is (b ∷ rest) = by_rest b (depth_of rest) (depth_is rest)
  where
    by_rest : (b : Bool) (d : ℕ) → IsDepth rest d → IsDepth (b ∷ rest) (deeper b d)
    by_rest true zero h = record { within = omega (arith, h.within); last = λ q e. first q (omega arith); dense = λ q le. later q le }
      where
        first : (q : ℕ) → q ≡ 0 → get_or (true ∷ rest) q false ≡ true
        first zero e = refl
        first (suc q) e = absurd (omega arith)

        later : (q : ℕ) → 1 ≤ q → get_or (true ∷ rest) q false ≡ false
        later zero e = absurd (omega arith)
        later (suc q) e = h.dense q (omega arith)
    by_rest false zero h = record { within = omega (arith, h.within); last = λ q e. absurd (omega arith); dense = λ q le. each q }
      where
        each : (q : ℕ) → get_or (false ∷ rest) q false ≡ false
        each zero = refl
        each (suc q) = h.dense q (omega arith)
    by_rest b (suc d) h = record { within = omega (arith, h.within); last = λ q e. front q e; dense = λ q le. behind q le }
      where
        front : (q : ℕ) → q + 1 ≡ suc (suc d) → get_or (b ∷ rest) q false ≡ true
        front zero e = absurd (omega arith)
        front (suc q) e = h.last q (omega arith)

        behind : (q : ℕ) → suc (suc d) ≤ q → get_or (b ∷ rest) q false ≡ false
        behind zero e = absurd (omega arith)
        behind (suc q) e = h.dense q (omega arith)

-- a test of all numbers below n
at_below : (p : ℕ → Bool) (n : ℕ) → list_all p (below n) ≡ true → (q : ℕ) → q < n → p q ≡ true
at_below p zero h q l = absurd (omega arith)
at_below p (suc n) h q l =
    let parts = and_parts (list_all p (below n)) (list_all p (n ∷ [])) (sym (list_all-append p (below n) (n ∷ [])) ∙ h) in
    elim (cases_lt q n) [
      | inl less ↦ at_below p n parts.0 q less
      | inr le ↦ ap p (let e : q ≡ n = omega arith in e) ∙ (and_parts (p n) true parts.1).0
    ]

pub make_below : (p : ℕ → Bool) (n : ℕ) → ((q : ℕ) → q < n → p q ≡ true) → list_all p (below n) ≡ true
make_below p zero h = refl
make_below p (suc n) h =
    list_all-append p (below n) (n ∷ [])
    ∙ and_from (list_all p (below n)) (list_all p (n ∷ [])) (make_below p n (λ q l. h q (omega arith))) (and_from (p n) true (h n (omega arith)) refl)

-- what is asked of compressed levels holds at a dense one
pub dense_passes : (a b : Bool) → a ≡ false → (not a || b) ≡ true
dense_passes a b h = rw h refl

compressed_fails : (a b : Bool) → a ≡ true → (not a || b) ≡ true → b ≡ true
compressed_fails a b e h = rw e at h

-- coordinates without a compressed level are followed
pub followed_dense : (comp : List Bool) (entries : List (List ℕ)) (c : List ℕ) → depth_of (take (length c) comp) ≡ 0 → is_followed comp entries c ≡ true
followed_dense comp entries c none =
    make_below (λ q. not (get_or comp q false) || list_any (begins (take (q + 1) c)) entries) (length c)
    (λ q l. dense_passes (get_or comp q false) (list_any (begins (take (q + 1) c)) entries)
    (sym (get_or-take (length c) comp q false l) ∙ (depth_is (take (length c) comp)).dense q (omega arith)))

-- a longer front that begins an entry makes each shorter one begin it
shorter : (r q : ℕ) (c e : List ℕ) → r ≤ q → q ≤ length c → begins (take q c) e ≡ true → begins (take r c) e ≡ true
shorter r q c e k l h =
    let same : take q e ≡ take q c = ap (λ j. take j e) (sym (length-take-le q c l)) ∙ (bytes_eq-Decides (take (length (take q c)) e) (take q c)).0 h in
    (bytes_eq-Decides (take (length (take r c)) e) (take r c)).1
    (ap (λ j. take j e) (length-take-le r c (omega arith)) ∙ sym (take-take r q e k) ∙ ap (take r) same ∙ take-take r q c k)

-- others are followed where their front up to the last compressed level begins an entry
pub followed_deep : (comp : List Bool) (entries : List (List ℕ)) (c : List ℕ) (d : ℕ) → length c ≤ length comp → depth_of (take (length c) comp) ≡ d → 0 < d
    → (d ≤ length c) × (is_followed comp entries c ≡ list_any (begins (take d c)) entries)
followed_deep comp entries c d fits is pos = (within, same_truth (is_followed comp entries c) (list_any (begins (take d c)) entries) down up)
  where
    facts : IsDepth (take (length c) comp) d
    facts = subst (λ j. IsDepth (take (length c) comp) j) is (depth_is (take (length c) comp))

    within : d ≤ length c
    within = omega (arith, facts.within, length-take-le (length c) comp fits)

    test : ℕ → Bool
    test q = not (get_or comp q false) || list_any (begins (take (q + 1) c)) entries

    at_last : (q : ℕ) → q + 1 ≡ d → is_followed comp entries c ≡ true → list_any (begins (take d c)) entries ≡ true
    at_last q e h =
        let comped : get_or comp q false ≡ true = sym (get_or-take (length c) comp q false (omega (arith, within))) ∙ facts.last q e in
        ap (λ j. list_any (begins (take j c)) entries) (sym e)
        ∙ compressed_fails (get_or comp q false) (list_any (begins (take (q + 1) c)) entries) comped (at_below test (length c) h q (omega (arith, within)))

    down : is_followed comp entries c ≡ true → list_any (begins (take d c)) entries ≡ true
    down h = at_last (d - 1) (omega arith) h

    up : list_any (begins (take d c)) entries ≡ true → is_followed comp entries c ≡ true
    up h = make_below test (length c) (λ q l. by_place q l (cases_lt q d))
      where
        some : Any (λ e. begins (take d c) e ≡ true) entries
        some = Any-from_list_any (begins (take d c)) entries h

        by_place : (q : ℕ) → q < length c → (q < d) ⊎ (d ≤ q) → test q ≡ true
        by_place q l (inr le) =
            dense_passes (get_or comp q false) (list_any (begins (take (q + 1) c)) entries) (sym (get_or-take (length c) comp q false l) ∙ facts.dense q le)
        by_place q l (inl less) =
            or_right (not (get_or comp q false)) (list_any (begins (take (q + 1) c)) entries)
            (list_any_at (begins (take (q + 1) c)) entries some.0 some.1 some.2 (ap (begins (take (q + 1) c)) some.3 ∙ shorter (q + 1) d c some.1 (omega arith) within some.4))

-- only one depth fits
pub depth_unique : (comp : List Bool) (d e : ℕ) → IsDepth comp d → IsDepth comp e → d ≡ e
depth_unique comp d e a b = elim (cases_lt d e) [
  | inl less ↦ absurd (apart comp d e a b less)
  | inr ge ↦ elim (cases_lt e d) [ inl less ↦ absurd (apart comp e d b a less) | inr le ↦ omega arith ]
]
  where
    apart : (comp : List Bool) (d e : ℕ) → IsDepth comp d → IsDepth comp e → d < e → ⊥
    apart comp d e a b less =
        let yes = b.last (e - 1) (omega arith) in
        let no = a.dense (e - 1) (omega arith) in
        let f : true ≡ false = sym yes ∙ no in cc

-- one more level
pub depth_compressed : (comp : List Bool) (i : ℕ) → i < length comp → get_or comp i false ≡ true → depth_of (take (i + 1) comp) ≡ i + 1
depth_compressed comp i h e =
    depth_unique (take (i + 1) comp) (depth_of (take (i + 1) comp)) (i + 1) (depth_is (take (i + 1) comp)) (record {
      within = omega (arith, length-take-le (i + 1) comp (omega arith));
      last = λ q s. get_or-take (i + 1) comp q false (omega arith) ∙ ap (λ (k : ℕ). get_or comp k false) (let same : q ≡ i = omega arith in same) ∙ e;
      dense = λ q le. get_or_past (take (i + 1) comp) q false (omega (arith, length-take-le (i + 1) comp (omega arith)));
    })

pub depth_kept : (comp : List Bool) (i : ℕ) → i < length comp → get_or comp i false ≡ false → depth_of (take (i + 1) comp) ≡ depth_of (take i comp)
depth_kept comp i h e =
    let before = depth_is (take i comp) in
    depth_unique (take (i + 1) comp) (depth_of (take (i + 1) comp)) (depth_of (take i comp)) (depth_is (take (i + 1) comp)) (record {
      within = omega (arith, before.within, length-take-le (i + 1) comp (omega arith), length-take-le i comp (omega arith));
      last = λ q s.
          let lt : q < i = omega (arith, before.within, length-take-le i comp (omega arith)) in
          get_or-take (i + 1) comp q false (omega arith) ∙ sym (get_or-take i comp q false lt) ∙ before.last q s;
      dense = λ q le. later before q le (cases_lt q i);
    })
  where
    later : IsDepth (take i comp) (depth_of (take i comp)) → (q : ℕ) → depth_of (take i comp) ≤ q → (q < i) ⊎ (i ≤ q) → get_or (take (i + 1) comp) q false ≡ false
    later before q le (inl lt) = get_or-take (i + 1) comp q false (omega arith) ∙ sym (get_or-take i comp q false lt) ∙ before.dense q le
    later before q le (inr ge) = elim (cases_lt i q) [
      | inl past ↦ get_or_past (take (i + 1) comp) q false (omega (arith, length-take-le (i + 1) comp (omega arith)))
      | inr at ↦ get_or-take (i + 1) comp q false (omega arith) ∙ ap (λ (k : ℕ). get_or comp k false) (let same : q ≡ i = omega arith in same) ∙ e
    ]

-- a compressed level lies above the depth of all
pub depth_reaches : (comp : List Bool) (i : ℕ) → get_or comp i false ≡ true → i < depth_of comp
depth_reaches comp i e = elim (cases_lt i (depth_of comp)) [
  | inl h ↦ h
  | inr le ↦ absurd (let f : true ≡ false = sym e ∙ (depth_is comp).dense i le in cc)
]

-- the first levels are not deeper than all
pub depth_front : (comp : List Bool) (l : ℕ) → l ≤ length comp → depth_of (take l comp) ≤ depth_of comp
depth_front comp l h = by_depth (depth_of (take l comp)) refl
  where
    by_depth : (d : ℕ) → depth_of (take l comp) ≡ d → depth_of (take l comp) ≤ depth_of comp
    by_depth zero e = omega arith
    by_depth (suc d) e =
        let facts = depth_is (take l comp) in
        let yes : get_or comp d false ≡ true = sym (get_or-take l comp d false (omega (arith, facts.within, length-take-le l comp h))) ∙ facts.last d (omega arith) in
        let deep = depth_reaches comp d yes in
        omega arith

-- a coordinate at a dense level changes nothing
pub followed_more : (comp : List Bool) (entries : List (List ℕ)) (c : List ℕ) (x : ℕ) → length c < length comp → get_or comp (length c) false ≡ false
    → is_followed comp entries (c ++ x ∷ []) ≡ is_followed comp entries c
followed_more comp entries c x h e = by_depth (depth_of (take (length c) comp)) refl
  where
    long : length (c ++ x ∷ []) ≡ length c + 1
    long = length_push c x

    kept : depth_of (take (length (c ++ x ∷ [])) comp) ≡ depth_of (take (length c) comp)
    kept = ap (λ (n : ℕ). depth_of (take n comp)) long ∙ depth_kept comp (length c) h e

    by_depth : (d : ℕ) → depth_of (take (length c) comp) ≡ d → is_followed comp entries (c ++ x ∷ []) ≡ is_followed comp entries c
    by_depth zero z = followed_dense comp entries (c ++ x ∷ []) (kept ∙ z) ∙ sym (followed_dense comp entries c z)
    by_depth (suc d) z =
        let short = followed_deep comp entries c (suc d) (omega arith) z (omega arith) in
        let wide = followed_deep comp entries (c ++ x ∷ []) (suc d) (omega (arith, long)) (kept ∙ z) (omega arith) in
        wide.1 ∙ ap (λ (f : List ℕ). list_any (begins f) entries) (take-append-le (suc d) c (x ∷ []) short.0) ∙ sym short.1
