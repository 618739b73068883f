-- Marks of variables, as they are set.
use Rattle.std.proofs.Common.{◌≡◌, ℕ, zero, suc, ◌+◌, ◌<◌, ◌≤◌, Bool, true, false, ◌||◌, List, [], ◌∷◌, ◌++◌, length, take, refl, sym, ap, ◌∙◌, arith}
use Rattle.std.specs.Prelude.{if◌then◌else◌, nat_lt, slice_index_or}
use Rattle.std.specs.List.{AllByRecursion, list_any}
use Rattle.std.proofs.Math.ListN.{set, get_or-append}
use Rattle.std.proofs.Math.Path.{fun_ext}
use Rattle.std.proofs.lemmas.Bool.{eq-eqb, ltb-true, ltb-false}
use Rattle.std.proofs.lemmas.List.{get_or-set_other, get_or-set_same, get_or_past, get_or-append-add}
use Rattle.dt_nest.specs.declared.derivations.Derived.{Derived}
use Rattle.dt_nest.specs.declared.inner_loops.InnerLoop.{InnerLoop}
use Rattle.dt_nest.specs.Lawful.{sources}
use Rattle.dt_nest.specs.ValueTables.{dependents, depends, marked}
use Rattle.dt_nest.specs.InnerLoops.{is_inner_loop}
use Rattle.dt_nest.proofs.TableFacts.{by_number}

-- Derivations that follow ---------------------------------------------------------------------------------------------------

module _ (loops : ℕ → Bool) (ds rest : List Derived) (d : Derived) (marks : List Bool) (e : ds ≡ d ∷ rest) (h : (u : ℕ) → marked marks u ≡ depends rest loops u) where
  -- whether one more derivation follows
  pub follows_here : (b : Bool) → b ≡ list_any (marked marks) (sources d.how) → b ≡ list_any (depends rest loops) (sources d.how)
  follows_here b f = f ∙ ap (λ (p : ℕ → Bool). list_any p (sources d.how)) (fun_ext h)

  -- the marks with one more derivation
  pub marks_more : (b : Bool) → d.var < length marks → b ≡ list_any (marked marks) (sources d.how) → (u : ℕ) → marked (set marks d.var b) u ≡ depends ds loops u
  marks_more b l f u =
      by_number u d.var (marked (set marks d.var b) u ≡ depends ds loops u)
      (λ k. ap (λ (v : ℕ). marked (set marks d.var b) v) k ∙ get_or-set_same marks d.var b false l ∙ follows_here b f
      ∙ ap (λ (t : Bool). if t then list_any (depends rest loops) (sources d.how) else depends rest loops u) (sym (eq-eqb u d.var k)) ∙ ap (λ (l : List Derived). depends l loops u) (sym e))
      (λ k n. get_or-set_other marks d.var u b false n ∙ h u
      ∙ ap (λ (t : Bool). if t then list_any (depends rest loops) (sources d.how) else depends rest loops u) (sym k) ∙ ap (λ (l : List Derived). depends l loops u) (sym e))

  -- the derivations with one more
  pub list_more : (b : Bool) (old new : List Derived) → b ≡ list_any (marked marks) (sources d.how) → old ≡ dependents rest loops → new ≡ old ++ (if b then d ∷ [] else []) → new ≡ dependents ds loops
  list_more b old new f o n =
      n ∙ ap (λ (l : List Derived). l ++ (if b then d ∷ [] else [])) o ∙ ap (λ (t : Bool). dependents rest loops ++ (if t then d ∷ [] else [])) (follows_here b f) ∙ ap (λ (l : List Derived). dependents l loops) (sym e)

-- Inner loops -----------------------------------------------------------------------------------------------------------

-- one more variable
pub more_marks : (inner_loops : List InnerLoop) (marks : List Bool) (k : ℕ) (b : Bool) → k < length marks → b ≡ is_inner_loop inner_loops k → ((v : ℕ) → v < k → marked marks v ≡ is_inner_loop inner_loops v)
    → (v : ℕ) → v < k + 1 → marked (set marks k b) v ≡ is_inner_loop inner_loops v
more_marks inner_loops marks k b l e h v m =
    by_number v k (marked (set marks k b) v ≡ is_inner_loop inner_loops v)
    (λ q. ap (λ (u : ℕ). marked (set marks k b) u) q ∙ get_or-set_same marks k b false l ∙ e ∙ ap (is_inner_loop inner_loops) (sym q))
    (λ q n. get_or-set_other marks k v b false n ∙ h v (below v k m n))
  where
    below : (v k : ℕ) → v < k + 1 → (v ≡ k → ⊥) → v < k
    below v k b n = go (nat_lt v k) (ltb-true v k) (ltb-false v k)
      where
        go : (t : Bool) → (t ≡ true → v < k) → (t ≡ false → k ≤ v) → v < k
        go true p q = p refl
        go false p q = absurd (n (let r = q refl in omega (arith, b, r)))

-- past the last variable there is no inner loop
no_inner_loop : (inner_loops : List InnerLoop) (room v : ℕ) → AllByRecursion (λ w. w.var < room) inner_loops → room ≤ v → is_inner_loop inner_loops v ≡ false
no_inner_loop [] room v a l = refl
no_inner_loop (w ∷ inner_loops) room v a l =
    by_number v w.var (is_inner_loop (w ∷ inner_loops) v ≡ false) (λ k. absurd (let b = a.0 in omega (arith, b, l, k))) (λ k n. ap (λ (b : Bool). b || is_inner_loop inner_loops v) k ∙ no_inner_loop inner_loops room v a.1 l)

-- all variables
pub all_marks : (inner_loops : List InnerLoop) (marks : List Bool) (k : ℕ) → AllByRecursion (λ w. w.var < length marks) inner_loops → length marks ≤ k → ((v : ℕ) → v < k → marked marks v ≡ is_inner_loop inner_loops v) → (v : ℕ) → marked marks v ≡ is_inner_loop inner_loops v
all_marks inner_loops marks k a l h v = go (nat_lt v k) (ltb-true v k) (ltb-false v k)
  where
    go : (t : Bool) → (t ≡ true → v < k) → (t ≡ false → k ≤ v) → marked marks v ≡ is_inner_loop inner_loops v
    go true p q = h v (p refl)
    go false p q =
        let r = q refl in let m : length marks ≤ v = omega (arith, l, r) in
        get_or_past marks v false m ∙ sym (no_inner_loop inner_loops (length marks) v a m)

-- the first inner loops are within what all are
pub first_within : (inner_loops : List InnerLoop) (room k : ℕ) → AllByRecursion (λ w. w.var < room) inner_loops → AllByRecursion (λ w. w.var < room) (take k inner_loops)
first_within inner_loops room zero a = tt
first_within [] room (suc k) a = tt
first_within (w ∷ inner_loops) room (suc k) a = (a.0, first_within inner_loops room k a.1)

-- one more list
pub more_lists : (ds : List Derived) (inner_loops : List InnerLoop) (marks : List Bool) (lists : List (List Derived)) (list : List Derived) (k : ℕ) → length lists ≡ k → ((u : ℕ) → marked marks u ≡ is_inner_loop (take (k + 1) inner_loops) u) → list ≡ dependents ds (marked marks)
    → ((j : ℕ) → j < k → slice_index_or lists j [] ≡ dependents ds (is_inner_loop (take (j + 1) inner_loops))) → (j : ℕ) → j < k + 1 → slice_index_or (lists ++ list ∷ []) j [] ≡ dependents ds (is_inner_loop (take (j + 1) inner_loops))
more_lists ds inner_loops marks lists list k c m e h j l = go (nat_lt j k) (ltb-true j k) (ltb-false j k)
  where
    go : (t : Bool) → (t ≡ true → j < k) → (t ≡ false → k ≤ j) → slice_index_or (lists ++ list ∷ []) j [] ≡ dependents ds (is_inner_loop (take (j + 1) inner_loops))
    go true p q = get_or-append lists (list ∷ []) [] j (let r = p refl in omega (arith, c, r)) ∙ h j (p refl)
    go false p q =
        let r = q refl in
        let s : j ≡ length lists + 0 = omega (arith, r, l, c) in
        let t : k ≡ j = omega (arith, r, l) in
        ap (λ (i : ℕ). slice_index_or (lists ++ list ∷ []) i []) s ∙ get_or-append-add lists (list ∷ []) 0 [] ∙ e
        ∙ ap (dependents ds) (fun_ext m) ∙ ap (λ (i : ℕ). dependents ds (is_inner_loop (take (i + 1) inner_loops))) t
