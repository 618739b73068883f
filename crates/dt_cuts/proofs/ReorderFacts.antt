-- Lists of loops, and those of them that stand in a tree, in its order.
use Rattle.std.proofs.Common.{◌≡◌, ℕ, suc, ◌+◌, ◌≤◌, Bool, true, false, ◌||◌, not, List, [], ◌∷◌, ◌++◌, ◌⊎◌, inl, inr, map, length, refl, ap, ◌∙◌, subst, arith}
use Rattle.std.specs.Prelude.{if◌then◌else◌, nat_eq, slice_index}
use Rattle.std.specs.List.{AllByRecursion, IsDistinct}
use Rattle.std.proofs.lemmas.Bool.{eqb-true, eq-eqb, not-true, and_parts, or_cases, or_parts}
use Rattle.std.proofs.lemmas.Cmp.{nat_eq_equiv}
use Rattle.dt_cuts.specs.declared.cuts.Head.{Head}
use Rattle.dt_nest.proofs.Each.{all_map, all_append}
use Rattle.dt_nest.specs.Tree.{Tree, Loop, Pre, Leaf, has_loop, times}
use Rattle.dt_nest.specs.Schedule.{Schedule}
use Rattle.dt_cuts.specs.Cutting.{is_head, heads_of}
use Rattle.dt_nest.specs.Questions.{is_in, all_differ, in_order}
use Rattle.dt_cuts.proofs.Orders.{times_in}

-- Lists of loops -----------------------------------------------------------------------------------------------------------

-- each is among them
pub all_in : (vs : List ℕ) → AllByRecursion (λ v. is_in vs v ≡ true) vs
all_in [] = tt
all_in (u ∷ vs) = (
  ap (λ b. b || is_in vs u) (eq-eqb u u refl),
  all_map (λ v. is_in vs v ≡ true) (λ v. is_in (u ∷ vs) v ≡ true) (λ v e. more v (nat_eq v u) e) vs (all_in vs),
)
  where
    more : (v : ℕ) (b : Bool) → is_in vs v ≡ true → (b || is_in vs v) ≡ true
    more v true e = refl
    more v false e = e

-- one among them stands at least once
pub times_present : (v : ℕ) (vs : List ℕ) → is_in vs v ≡ true → 1 ≤ times_in v vs
times_present v [] e = absurd (cc)
times_present v (u ∷ vs) e = go (nat_eq v u) e (λ e. times_present v vs e)
  where
    go : (b : Bool) → (b || is_in vs v) ≡ true → (is_in vs v ≡ true → 1 ≤ times_in v vs) → 1 ≤ (if b then 1 else 0) + times_in v vs
    go true e r = omega arith
    go false e r = let k = r e in omega arith

-- one that isn't doesn't stand there
pub times_absent : (v : ℕ) (vs : List ℕ) → is_in vs v ≡ false → times_in v vs ≡ 0
times_absent v [] e = refl
times_absent v (u ∷ vs) e = go (nat_eq v u) e (λ e. times_absent v vs e)
  where
    go : (b : Bool) → (b || is_in vs v) ≡ false → (is_in vs v ≡ false → times_in v vs ≡ 0) → (if b then 1 else 0) + times_in v vs ≡ 0
    go true e r = absurd (cc)
    go false e r = let k = r e in omega arith

-- where all differ, each stands at most once
pub times_differ : (v : ℕ) (vs : List ℕ) → all_differ vs ≡ true → times_in v vs ≤ 1
times_differ v [] d = omega arith
times_differ v (u ∷ vs) d =
    let p = and_parts (not (is_in vs u)) (all_differ vs) d in
    go (nat_eq v u) (eqb-true v u) (times_absent u vs (not-true (is_in vs u) p.0)) (times_differ v vs p.1)
  where
    go : (b : Bool) → (b ≡ true → v ≡ u) → times_in u vs ≡ 0 → times_in v vs ≤ 1 → (if b then 1 else 0) + times_in v vs ≤ 1
    go true e z r = let q : times_in v vs ≡ times_in u vs = ap (λ x. times_in x vs) (e refl) in omega arith
    go false e z r = omega arith

-- their heads are the same loops
pub heads_in : (s : Schedule) (vs : List ℕ) (v : ℕ) → is_head (heads_of s vs) v ≡ is_in vs v
heads_in s [] v = refl
heads_in s (u ∷ vs) v = ap (λ b. nat_eq v u || b) (heads_in s vs v)

-- where all differ, so do the heads
pub heads_differ : (s : Schedule) (vs : List ℕ) → all_differ vs ≡ true → IsDistinct nat_eq (map (λ (h : Head). h.var) (heads_of s vs))
unfolding IsDistinct
heads_differ s [] e = tt
heads_differ s (v ∷ vs) e = let p = and_parts (not (is_in vs v)) (all_differ vs) e in (apart vs (not-true (is_in vs v) p.0), heads_differ s vs p.1)
  where
    apart : (us : List ℕ) → is_in us v ≡ false → AllByRecursion (λ y. nat_eq v y ≡ false) (map (λ (h : Head). h.var) (heads_of s us))
    apart [] e = tt
    apart (u ∷ us) e = let p = or_parts (nat_eq v u) (is_in us v) e in (p.0, apart us p.1)

-- there are as many
pub length_heads : (s : Schedule) (vs : List ℕ) → length (heads_of s vs) ≡ length vs
length_heads s [] = refl
length_heads s (v ∷ vs) = ap suc (length_heads s vs)

-- no loops have no heads
pub no_heads : (s : Schedule) (vs : List ℕ) → length vs ≡ 0 → heads_of s vs ≡ []
no_heads s [] e = refl
no_heads s (v ∷ vs) e = absurd (omega arith)

-- what holds of each loop and its extent holds of each head
pub all_heads : (s : Schedule) (P : Head → Type 0) (vs : List ℕ) → AllByRecursion (λ v. P (record { var = v; extent = slice_index s.extents v })) vs → AllByRecursion P (heads_of s vs)
all_heads s P [] h = tt
all_heads s P (v ∷ vs) h = (h.0, all_heads s P vs h.1)

-- The named loops in the tree's order --------------------------------------------------------------------------------------

-- in two lists, one after the other, a loop stands as often as in both
times_append : (v : ℕ) (us vs : List ℕ) → times_in v (us ++ vs) ≡ times_in v us + times_in v vs
times_append v [] vs = omega arith
times_append v (u ∷ us) vs = let r = times_append v us vs in omega arith

-- a loop is among two lists where it is in either
in_append : (v : ℕ) (us vs : List ℕ) → is_in (us ++ vs) v ≡ (is_in us v || is_in vs v)
in_append v [] vs = refl
in_append v (u ∷ us) vs = ap (λ b. nat_eq v u || b) (in_append v us vs) ∙ parts (nat_eq v u) (is_in us v) (is_in vs v)
  where
    parts : (a b c : Bool) → (a || (b || c)) ≡ ((a || b) || c)
    parts true b c = refl
    parts false b c = refl

-- each of them is a named one
pub order_named : (vs : List ℕ) (tree : Tree) → AllByRecursion (λ u. is_in vs u ≡ true) (in_order vs tree)
order_named vs (Loop u n walk body) = go (is_in vs u) refl (order_named vs body)
  where
    go : (b : Bool) → is_in vs u ≡ b → AllByRecursion (λ u. is_in vs u ≡ true) (in_order vs body) → AllByRecursion (λ u. is_in vs u ≡ true) (if b then u ∷ in_order vs body else in_order vs body)
    go true e r = (e, r)
    go false e r = r
order_named vs (Pre work pairs producer consumer) =
    all_append (λ u. is_in vs u ≡ true) (in_order vs producer) (in_order vs consumer) (order_named vs producer) (order_named vs consumer)
order_named vs (Leaf lhs terms guards kernel) = tt

-- each named loop of the tree is one of them
pub order_has : (vs : List ℕ) (tree : Tree) (v : ℕ) → is_in vs v ≡ true → has_loop v tree ≡ true → is_in (in_order vs tree) v ≡ true
order_has vs (Loop u n walk body) v i e = go (is_in vs u) refl (nat_eq u v) refl e (λ e. order_has vs body v i e)
  where
    go : (a : Bool) → is_in vs u ≡ a → (b : Bool) → nat_eq u v ≡ b → (b || has_loop v body) ≡ true → (has_loop v body ≡ true → is_in (in_order vs body) v ≡ true)
        → is_in (if a then u ∷ in_order vs body else in_order vs body) v ≡ true
    go true p true q e r = ap (λ t. t || is_in (in_order vs body) v) (nat_eq_equiv.symm v u ∙ q)
    go true p false q e r = ap (λ t. t || is_in (in_order vs body) v) (nat_eq_equiv.symm v u ∙ q) ∙ r e
    go false p true q e r = absurd (let k = ap (is_in vs) (eqb-true u v q) in cc)
    go false p false q e r = r e
order_has vs (Pre work pairs producer consumer) v i e =
    in_append v (in_order vs producer) (in_order vs consumer)
    ∙ go (or_cases (has_loop v producer) (has_loop v consumer) e) (λ e. order_has vs producer v i e) (λ e. order_has vs consumer v i e)
  where
    either : (a b : Bool) → (a ≡ true) ⊎ (b ≡ true) → (a || b) ≡ true
    either true b h = refl
    either false b (inl h) = absurd (cc)
    either false b (inr h) = h

    go : (has_loop v producer ≡ true) ⊎ (has_loop v consumer ≡ true)
        → (has_loop v producer ≡ true → is_in (in_order vs producer) v ≡ true) → (has_loop v consumer ≡ true → is_in (in_order vs consumer) v ≡ true)
        → (is_in (in_order vs producer) v || is_in (in_order vs consumer) v) ≡ true
    go (inl e) p q = either (is_in (in_order vs producer) v) (is_in (in_order vs consumer) v) (inl (p e))
    go (inr e) p q = either (is_in (in_order vs producer) v) (is_in (in_order vs consumer) v) (inr (q e))
order_has vs (Leaf lhs terms guards kernel) v i e = absurd (cc)

-- and stands there no more often than in the tree
pub order_times : (vs : List ℕ) (tree : Tree) (v : ℕ) → times_in v (in_order vs tree) ≤ times v tree
order_times vs (Loop u n walk body) v =
    subst (λ (b : Bool). times_in v (in_order vs (Loop u n walk body)) ≤ (if b then 1 else 0) + times v body) (nat_eq_equiv.symm v u) (go (is_in vs u) (order_times vs body v))
  where
    go : (b : Bool) → times_in v (in_order vs body) ≤ times v body → times_in v (if b then u ∷ in_order vs body else in_order vs body) ≤ (if nat_eq v u then 1 else 0) + times v body
    go true r = omega arith
    go false r = omega arith
order_times vs (Pre work pairs producer consumer) v =
    let p = order_times vs producer v in let q = order_times vs consumer v in
    let e = times_append v (in_order vs producer) (in_order vs consumer) in omega arith
order_times vs (Leaf lhs terms guards kernel) v = omega arith
