-- Loops in another order add the same.
use Rattle.std.proofs.Common.{◌≡◌, ℕ, suc, ◌+◌, ◌≤◌, Bool, true, false, List, [], ◌∷◌, length, refl, sym, ap, ◌∙◌, arith}
use Rattle.std.specs.Prelude.{if◌then◌else◌, nat_eq, slice_index}
use Rattle.std.proofs.Math.Path.{fun_ext}
use Rattle.std.proofs.lemmas.Bool.{eqb-true, eq-eqb}
use Rattle.dt_cuts.specs.declared.cuts.Head.{Head}
use Rattle.dt_nest.specs.Schedule.{Schedule}
use Rattle.dt_nest.specs.Meaning.{Env, bind}
use Rattle.dt_nest.proofs.SumLaws.{sum_below_same, sum_below_swap}
use Rattle.dt_cuts.specs.Cutting.{sum_over, heads_of}

-- how often v stands in a list
abbrev pub times_in : ℕ → List ℕ → ℕ
times_in v [] = 0
times_in v (u ∷ us) = (if nat_eq v u then 1 else 0) + times_in v us

-- each number stands in both lists equally often
abbrev pub AreReordered : List ℕ → List ℕ → Type 0
AreReordered us vs = (v : ℕ) → times_in v us ≡ times_in v vs

-- the list without the first v
abbrev without_first : ℕ → List ℕ → List ℕ
without_first v [] = []
without_first v (u ∷ us) = if nat_eq v u then us else u ∷ without_first v us

-- v stands in a list that begins with it
times_head : (v : ℕ) (us : List ℕ) → 1 ≤ times_in v (v ∷ us)
times_head v us = let e : times_in v (v ∷ us) ≡ 1 + times_in v us = ap (λ b. (if b then 1 else 0) + times_in v us) (eq-eqb v v refl) in omega arith

-- to put v first changes no number's times
times_first : (v : ℕ) (us : List ℕ) → 1 ≤ times_in v us → AreReordered (v ∷ without_first v us) us
times_first v [] l u = absurd (omega arith)
times_first v (x ∷ us) l u = go (nat_eq v x) (eqb-true v x) l (λ l. times_first v us l u)
  where
    go : (b : Bool) → (b ≡ true → v ≡ x) → 1 ≤ (if b then 1 else 0) + times_in v us → (1 ≤ times_in v us → times_in u (v ∷ without_first v us) ≡ times_in u us)
        → times_in u (v ∷ (if b then us else x ∷ without_first v us)) ≡ times_in u (x ∷ us)
    go true e l r = ap (λ z. times_in u (z ∷ us)) (e refl)
    go false e l r = let k = r (omega arith) in omega arith

-- nor the length
length_first : (v : ℕ) (us : List ℕ) → 1 ≤ times_in v us → suc (length (without_first v us)) ≡ length us
length_first v [] l = absurd (omega arith)
length_first v (x ∷ us) l = go (nat_eq v x) l (λ l. length_first v us l)
  where
    go : (b : Bool) → 1 ≤ (if b then 1 else 0) + times_in v us → (1 ≤ times_in v us → suc (length (without_first v us)) ≡ length us)
        → suc (length (if b then us else x ∷ without_first v us)) ≡ length (x ∷ us)
    go true l r = refl
    go false l r = ap suc (r (omega arith))

-- without the first of one list, both stay so
reordered_rest : (v : ℕ) (us vs : List ℕ) → AreReordered (v ∷ us) vs → AreReordered us (without_first v vs)
reordered_rest v us vs h u =
    let a = h u in
    let b = times_first v vs (let p = times_head v us in let q = h v in omega arith) u in omega arith

-- lists with the same numbers are equally long
pub length_reordered : (us vs : List ℕ) → AreReordered us vs → length us ≡ length vs
length_reordered [] [] h = refl
length_reordered [] (v ∷ vs) h = absurd (let p = times_head v vs in let q = h v in omega arith)
length_reordered (u ∷ us) vs h =
    ap suc (length_reordered us (without_first u vs) (reordered_rest u us vs h))
    ∙ length_first u vs (let p = times_head u us in let q = h u in omega arith)

-- the values of two loops are bound in either order
bind_swap : (env : Env) (u v i j : ℕ) → nat_eq u v ≡ false → bind (bind env u i) v j ≡ bind (bind env v j) u i
bind_swap env u v i j ne = fun_ext (λ z. go z (nat_eq z u) (nat_eq z v) (eqb-true z u) (eqb-true z v))
  where
    go : (z : ℕ) (a b : Bool) → (a ≡ true → z ≡ u) → (b ≡ true → z ≡ v) → (if b then j else if a then i else env z) ≡ (if a then i else if b then j else env z)
    go z true true p q = absurd (let e = eq-eqb u v (sym (p refl) ∙ q refl) in cc)
    go z true false p q = refl
    go z false true p q = refl
    go z false false p q = refl

module _ (s : Schedule) where
  -- a loop of the schedule, with its extent
  abbrev head_of : ℕ → Head
  head_of v = record { var = v; extent = slice_index s.extents v }

  -- two neighbours change places
  neighbours_swap : (u v : ℕ) (hs : List Head) (f : Env → ℕ) (env : Env) → sum_over (head_of u ∷ head_of v ∷ hs) f env ≡ sum_over (head_of v ∷ head_of u ∷ hs) f env
  unfolding sum_over
  neighbours_swap u v hs f env = go (nat_eq u v) refl
    where
      go : (b : Bool) → nat_eq u v ≡ b → sum_over (head_of u ∷ head_of v ∷ hs) f env ≡ sum_over (head_of v ∷ head_of u ∷ hs) f env
      go true e =
          let p = eqb-true u v e in
          ap (λ (z : ℕ). sum_over (head_of u ∷ head_of z ∷ hs) f env) (sym p) ∙ ap (λ (z : ℕ). sum_over (head_of z ∷ head_of u ∷ hs) f env) p
      go false e =
          sum_below_swap (slice_index s.extents u) (slice_index s.extents v) (λ i j. sum_over hs f (bind (bind env u i) v j))
          ∙ sum_below_same (slice_index s.extents v) _ _ (λ j _. sum_below_same (slice_index s.extents u) _ _ (λ i _. ap (sum_over hs f) (bind_swap env u v i j e)))

  -- a loop comes first
  loop_first : (v : ℕ) (us : List ℕ) → 1 ≤ times_in v us → (f : Env → ℕ) (env : Env) → sum_over (heads_of s (v ∷ without_first v us)) f env ≡ sum_over (heads_of s us) f env
  unfolding sum_over
  loop_first v [] l f env = absurd (omega arith)
  loop_first v (x ∷ us) l f env = go (nat_eq v x) (eqb-true v x) l (λ l i. loop_first v us l f (bind env x i))
    where
      go : (b : Bool) → (b ≡ true → v ≡ x) → 1 ≤ (if b then 1 else 0) + times_in v us
          → (1 ≤ times_in v us → (i : ℕ) → sum_over (heads_of s (v ∷ without_first v us)) f (bind env x i) ≡ sum_over (heads_of s us) f (bind env x i))
          → sum_over (heads_of s (v ∷ (if b then us else x ∷ without_first v us))) f env ≡ sum_over (heads_of s (x ∷ us)) f env
      go true e l r = ap (λ (z : ℕ). sum_over (heads_of s (z ∷ us)) f env) (e refl)
      go false e l r =
          neighbours_swap v x (heads_of s (without_first v us)) f env
          ∙ sum_below_same (slice_index s.extents x) _ _ (λ i _. r (omega arith) i)

  -- The sum over loops in one order is that over the same loops in another.
  pub sum_over_reordered : (us vs : List ℕ) → AreReordered us vs → (f : Env → ℕ) (env : Env) → sum_over (heads_of s us) f env ≡ sum_over (heads_of s vs) f env
  unfolding sum_over
  sum_over_reordered [] [] h f env = refl
  sum_over_reordered [] (v ∷ vs) h f env = absurd (let p = times_head v vs in let q = h v in omega arith)
  sum_over_reordered (u ∷ us) vs h f env =
      sum_below_same (slice_index s.extents u) _ _ (λ i _. sum_over_reordered us (without_first u vs) (reordered_rest u us vs h) f (bind env u i))
      ∙ loop_first u vs (let p = times_head u us in let q = h u in omega arith) f env
