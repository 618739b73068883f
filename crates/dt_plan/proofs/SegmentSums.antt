-- What barrier segments cost, part by part, where they never fall.
use Rattle.std.proofs.Common.{◌≡◌, ℕ, zero, suc, ◌+◌, ◌<◌, ◌≤◌, Bool, true, false, List, [], ◌∷◌, ◌++◌, length, map, filter, refl, ap, sym, ◌∙◌, subst, arith}
use Rattle.std.specs.Prelude.{if◌then◌else◌, max, nat_eq, nat_lt, slice_index, sum_by}
use Rattle.std.specs.List.{AllByRecursion}
use Rattle.std.specs.List.Sorted.{IsSortedBy}
use Rattle.std.proofs.lemmas.Bool.{eqb-true, eq-eqb, eqb-false, ne_eqb, ltb-false}
use Rattle.std.proofs.lemmas.List.{map-append}
use Rattle.std.proofs.lemmas.List.Elements.{filter-append}
use Rattle.std.proofs.lemmas.List.Sums.{sum_by-append, sum_by-cons}
use Rattle.dt_nest.proofs.Each.{all_map}
use Rattle.dt_plan.specs.declared.parts.Part.{Part}
use Rattle.dt_plan.specs.Bounds.{greatest_of, part_words}
use Rattle.dt_plan.specs.Layouts.{Layout}
use Rattle.dt_plan.specs.NodeWords.{segment_sum, most_of_segments}
use Rattle.dt_plan.proofs.NodeRows.{greatest-cons, greatest-append}

-- numbers that agree up to a greater one have the same greatest, with that one
max_agree : {X : Type 0} (f g : X → ℕ) (m : ℕ) → ((x : X) → max (f x) m ≡ max (g x) m) → (xs : List X) → max (greatest_of (map f xs)) m ≡ max (greatest_of (map g xs)) m
max_agree f g m h [] = refl
max_agree f g m h (x ∷ xs) =
    let a = greatest-cons (f x) (map f xs) in
    let b = greatest-cons (g x) (map g xs) in
    let c = max_agree f g m h xs in
    let d = h x in
    omega (arith, a, b, c, d)

module _ (l : Layout) (n : ℕ) where
  -- one part more
  pub segment_more : (ps : List Part) (q : Part) (s : ℕ) → segment_sum l (ps ++ q ∷ []) s n ≡ segment_sum l ps s n + (if nat_eq q.segment s then part_words l n q else 0)
  segment_more ps q s =
      ap (sum_by (part_words l n)) (filter-append (λ (p : Part). nat_eq p.segment s) ps (q ∷ []))
      ∙ sum_by-append (part_words l n) (filter (λ (p : Part). nat_eq p.segment s) ps) (filter (λ (p : Part). nat_eq p.segment s) (q ∷ []))
      ∙ ap (λ (k : ℕ). segment_sum l ps s n + k) (one (nat_eq q.segment s))
    where
      alone : sum_by (part_words l n) (q ∷ []) ≡ part_words l n q
      alone = let e = sum_by-cons (part_words l n) q [] in omega (arith, e)

      one : (b : Bool) → sum_by (part_words l n) (if b then q ∷ [] else []) ≡ (if b then part_words l n q else 0)
      one true = alone
      one false = refl

  -- the part's segment, with the part
  pub segment_own : (ps : List Part) (q : Part) → segment_sum l (ps ++ q ∷ []) q.segment n ≡ segment_sum l ps q.segment n + part_words l n q
  segment_own ps q = segment_more ps q q.segment ∙ ap (λ (b : Bool). segment_sum l ps q.segment n + (if b then part_words l n q else 0)) (eq-eqb q.segment q.segment refl)

  -- the greatest segment is the greatest one before, or the part's
  pub most_more : (ps : List Part) (q : Part) → most_of_segments l (ps ++ q ∷ []) n ≡ max (most_of_segments l ps n) (segment_sum l (ps ++ q ∷ []) q.segment n)
  most_more ps q =
      ap greatest_of (map-append (λ (p : Part). segment_sum l (ps ++ q ∷ []) p.segment n) ps (q ∷ []))
      ∙ greatest-append (map (λ (p : Part). segment_sum l (ps ++ q ∷ []) p.segment n) ps) (own ∷ [])
      ∙ (let a = greatest-cons own [] in let b = max_agree (λ (p : Part). segment_sum l (ps ++ q ∷ []) p.segment n) (λ (p : Part). segment_sum l ps p.segment n) own each ps in omega (arith, a, b))
    where
      own : ℕ
      own = segment_sum l (ps ++ q ∷ []) q.segment n

      each : (p : Part) → max (segment_sum l (ps ++ q ∷ []) p.segment n) own ≡ max (segment_sum l ps p.segment n) own
      each p = go (nat_eq q.segment p.segment) refl
        where
          go : (b : Bool) → nat_eq q.segment p.segment ≡ b → max (segment_sum l (ps ++ q ∷ []) p.segment n) own ≡ max (segment_sum l ps p.segment n) own
          go true e =
              let s = eqb-true q.segment p.segment e in
              let a = ap (λ (k : ℕ). segment_sum l (ps ++ q ∷ []) k n) s in
              let b = ap (λ (k : ℕ). segment_sum l ps k n) s in
              let c = segment_own ps q in
              omega (arith, a, b, c)
          go false e =
              let a = segment_more ps q p.segment ∙ ap (λ (b : Bool). segment_sum l ps p.segment n + (if b then part_words l n q else 0)) e in
              omega (arith, a)

  -- a segment that no part is of costs nothing
  none_of : (s : ℕ) (ps : List Part) → AllByRecursion (λ (p : Part). p.segment < s) ps → segment_sum l ps s n ≡ 0
  none_of s [] h = refl
  none_of s (p ∷ ps) h =
      ap (λ (b : Bool). sum_by (part_words l n) (if b then p ∷ filter (λ (q : Part). nat_eq q.segment s) ps else filter (λ (q : Part). nat_eq q.segment s) ps)) (ne_eqb p.segment s (λ e. let k = h.0 in absurd (omega (arith, e, k))))
      ∙ none_of s ps h.1

  -- the part's segment goes on, or begins
  pub segment_goes : (ps : List Part) (q : Part) (s : ℕ) → AllByRecursion (λ (p : Part). p.segment ≤ s) ps → s ≤ q.segment
      → segment_sum l (ps ++ q ∷ []) q.segment n ≡ (if nat_eq q.segment s then segment_sum l ps s n else 0) + part_words l n q
  segment_goes ps q s h k = go (nat_eq q.segment s) refl
    where
      go : (b : Bool) → nat_eq q.segment s ≡ b → segment_sum l (ps ++ q ∷ []) q.segment n ≡ (if b then segment_sum l ps s n else 0) + part_words l n q
      go true e = segment_own ps q ∙ ap (λ (i : ℕ). segment_sum l ps i n + part_words l n q) (eqb-true q.segment s e)
      go false e =
          let ne = eqb-false q.segment s e in
          let z = none_of q.segment ps (all_map (λ (p : Part). p.segment ≤ s) (λ (p : Part). p.segment < q.segment) (λ p a. before p.segment a ne) ps h) in
          let o = segment_own ps q in
          omega (arith, z, o)
        where
          before : (i : ℕ) → i ≤ s → (q.segment ≡ s → ⊥) → i < q.segment
          before i a d = omega (arith, a, k, d)

-- no later one is less
pub never_falls : (xs : List ℕ) → IsSortedBy nat_lt xs → (i k : ℕ) → i ≤ k → k < length xs → slice_index xs i ≤ slice_index xs k
never_falls xs h i zero l b = let e : i ≡ 0 = omega (arith, l) in subst (λ (j : ℕ). slice_index xs j ≤ slice_index xs 0) (sym e) (omega arith)
never_falls xs h i (suc k) l b = go (nat_eq i (suc k)) refl (λ a. never_falls xs h i k a (omega (arith, b)))
  where
    step : slice_index xs k ≤ slice_index xs (k + 1)
    step = ltb-false (slice_index xs (k + 1)) (slice_index xs k) (h k 0 (omega arith) (omega (arith, b)))

    one : k + 1 ≡ suc k
    one = omega arith

    go : (c : Bool) → nat_eq i (suc k) ≡ c → (i ≤ k → slice_index xs i ≤ slice_index xs k) → slice_index xs i ≤ slice_index xs (suc k)
    go true e r = subst (λ (j : ℕ). slice_index xs j ≤ slice_index xs (suc k)) (sym (eqb-true i (suc k) e)) (omega arith)
    go false e r =
        let ne = eqb-false i (suc k) e in
        let a = r (omega (arith, l, ne)) in
        let c = subst (λ (j : ℕ). slice_index xs k ≤ slice_index xs j) one step in
        omega (arith, a, c)
