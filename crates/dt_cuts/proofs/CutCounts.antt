-- How often the tree after a cut has a loop, and what a cut leaves: all but loops and guards.
use Rattle.std.proofs.Common.{◌≡◌, ℕ, zero, suc, ◌+◌, ◌≤◌, Bool, true, false, ◌||◌, List, [], ◌∷◌, length, map, Option, refl, sym, ap, ◌∙◌, subst, arith}
use Rattle.std.specs.Prelude.{if◌then◌else◌, MatchBool, nat_eq}
use Rattle.std.specs.List.{AllByRecursion, IsDistinct}
use Rattle.std.proofs.lemmas.Bool.{eqb-true, eq-eqb, ne_eqb, or_parts}
use Rattle.dt_nest.specs.declared.loops.Walk.{Walk}
use Rattle.dt_nest.specs.declared.derivations.Derived.{Derived}
use Rattle.dt_cuts.specs.declared.cuts.Head.{Head}
use Rattle.dt_nest.specs.Outputs.{output_of, WritesWorks}
use Rattle.dt_nest.specs.Tree.{Tree, Loop, Pre, Leaf, loop_count, leaf_count, times, has_loop, accesses_of}
use Rattle.dt_nest.specs.Schedule.{Schedule}
use Rattle.dt_cuts.specs.Place.{at_loop, loops_around, without_loops, guarded}
use Rattle.dt_nest.specs.Lawful.{IsNamed, is_replaced, AreLoops, Loops, also, nodes_with, WorksStand}
use Rattle.dt_cuts.specs.Cutting.{cut_tree, is_head, BeginsWith, HoldsAt}
use Rattle.dt_nest.proofs.Truth.{or_either}

-- Sums over loops -----------------------------------------------------------------------------------------------------

-- the sum of f over the loops of a tree
abbrev pub loop_sum : (ℕ → ℕ) → Tree → ℕ
loop_sum f (Loop v n walk body) = f v + loop_sum f body
loop_sum f (Pre work pairs p q) = loop_sum f p + loop_sum f q
loop_sum f (Leaf lhs terms guards kernel) = 0

-- the sum of f over these loops
abbrev pub head_sum : (ℕ → ℕ) → List Head → ℕ
head_sum f [] = 0
head_sum f (h ∷ hs) = f h.var + head_sum f hs

-- 1 at u
abbrev pub one_at : ℕ → ℕ → ℕ
one_at u z = if nat_eq z u then 1 else 0

pub times_sum : (u : ℕ) (tree : Tree) → times u tree ≡ loop_sum (one_at u) tree
times_sum u (Loop v n walk body) = ap (λ (k : ℕ). one_at u v + k) (times_sum u body)
times_sum u (Pre work pairs p q) = let a = times_sum u p in let b = times_sum u q in omega (arith, a, b)
times_sum u (Leaf lhs terms guards kernel) = refl

pub count_sum : (tree : Tree) → loop_count tree ≡ loop_sum (λ z. 1) tree
count_sum (Loop v n walk body) = let a = count_sum body in omega (arith, a)
count_sum (Pre work pairs p q) = let a = count_sum p in let b = count_sum q in omega (arith, a, b)
count_sum (Leaf lhs terms guards kernel) = refl

pub head_count : (hs : List Head) → head_sum (λ z. 1) hs ≡ length hs
head_count [] = refl
head_count (h ∷ hs) = let a = head_count hs in omega (arith, a)

sum_around : (f : ℕ → ℕ) (hs : List Head) (tree : Tree) → loop_sum f (loops_around hs tree) ≡ head_sum f hs + loop_sum f tree
sum_around f [] tree = omega arith
sum_around f (h ∷ hs) tree = let a = sum_around f hs tree in omega (arith, a)

sum_without : (f : ℕ → ℕ) (hs : List Head) (tree : Tree) → BeginsWith hs tree → loop_sum f tree ≡ head_sum f hs + loop_sum f (without_loops (length hs) tree)
sum_without f [] tree b = omega arith
sum_without f (h ∷ hs) (Loop v n walk body) b = let a = sum_without f hs body b.3 in let e = ap f b.0 in omega (arith, a, e)
sum_without f (h ∷ hs) (Pre work pairs p q) b = absurd b
sum_without f (h ∷ hs) (Leaf lhs terms guards kernel) b = absurd b

sum_guarded : (f : ℕ → ℕ) (gs : List ℕ) (tree : Tree) → loop_sum f (guarded gs tree) ≡ loop_sum f tree
sum_guarded f gs (Loop v n walk body) = ap (λ (k : ℕ). f v + k) (sum_guarded f gs body)
sum_guarded f gs (Pre work pairs p q) = let a = sum_guarded f gs p in let b = sum_guarded f gs q in omega (arith, a, b)
sum_guarded f gs (Leaf lhs terms guards kernel) = refl

-- where v is no loop, nothing changes
pub at_none : (v : ℕ) (change : ℕ → Option Walk → Tree → Tree) (tree : Tree) → times v tree ≡ 0 → at_loop v change tree ≡ tree
at_none v change (Loop u n walk body) h = go (nat_eq u v) h (at_none v change body)
  where
    go : (t : Bool) → (if t then 1 else 0) + times v body ≡ 0 → (times v body ≡ 0 → at_loop v change body ≡ body) → (if t then change n walk body else Loop u n walk (at_loop v change body)) ≡ Loop u n walk body
    go true h r = absurd (omega (arith, h))
    go false h r = ap (λ (b : Tree). Loop u n walk b) (r (omega (arith, h)))
at_none v change (Pre work pairs p q) h =
    ap (λ (t : Tree). Pre work pairs t (at_loop v change q)) (at_none v change p (omega (arith, h))) ∙ ap (λ (t : Tree). Pre work pairs p t) (at_none v change q (omega (arith, h)))
at_none v change (Leaf lhs terms guards kernel) h = refl

-- a loop that stands is one at least
pub times_has : (v : ℕ) (tree : Tree) → has_loop v tree ≡ true → 1 ≤ times v tree
times_has v (Loop u n walk body) h = go (nat_eq u v) h (times_has v body)
  where
    go : (t : Bool) → (t || has_loop v body) ≡ true → (has_loop v body ≡ true → 1 ≤ times v body) → 1 ≤ (if t then 1 else 0) + times v body
    go true h r = omega arith
    go false h r = let k = r h in omega (arith, k)
times_has v (Pre work pairs p q) h =
    or_either (1 ≤ times v p + times v q) (has_loop v p) (has_loop v q) h (λ e. let k = times_has v p e in omega (arith, k)) (λ e. let k = times_has v q e in omega (arith, k))
times_has v (Leaf lhs terms guards kernel) h = absurd (cc)

-- a name past those of the schedule is no loop
pub times_past : (s : Schedule) (u : ℕ) (tree : Tree) → length s.names ≤ u → IsNamed s tree → times u tree ≡ 0
times_past s u (Loop v n walk body) le m =
    let e : nat_eq v u ≡ false = ne_eqb v u (λ q. omega (arith, q, m.0, le)) in
    let a : ◌≡◌ {A = ℕ} (if nat_eq v u then 1 else 0) 0 = ap (λ (t : Bool). let one : ℕ = 1 in if t then one else 0) e in
    let b = times_past s u body le m.3 in omega (arith, a, b)
times_past s u (Pre work pairs p q) le m = let a = times_past s u p le m.2 in let b = times_past s u q le m.3 in omega (arith, a, b)
times_past s u (Leaf lhs terms guards kernel) le m = refl

-- no loop of a tree is replaced where each name that is a loop isn't
pub loops_by_times : (new : List Derived) (tree : Tree) → ((u : ℕ) → 1 ≤ times u tree → is_replaced new u ≡ false) → AreLoops new tree
loops_by_times new (Loop v n walk body) h = (h v (here (nat_eq v v) (eq-eqb v v refl)), loops_by_times new body (λ u l. h u (omega (arith, l))))
  where
    here : (t : Bool) → t ≡ true → 1 ≤ (if t then 1 else 0) + times v body
    here true e = omega arith
    here false e = absurd (cc)
loops_by_times new (Pre work pairs p q) h = (loops_by_times new p (λ u l. h u (omega (arith, l))), loops_by_times new q (λ u l. h u (omega (arith, l))))
loops_by_times new (Leaf lhs terms guards kernel) h = tt

-- and the way back
pub times_of_loops : (new : List Derived) (tree : Tree) → AreLoops new tree → (u : ℕ) → 1 ≤ times u tree → is_replaced new u ≡ false
times_of_loops new (Loop v n walk body) a u l = go (nat_eq v u) (eqb-true v u) l (times_of_loops new body a.1 u)
  where
    go : (t : Bool) → (t ≡ true → v ≡ u) → 1 ≤ (if t then 1 else 0) + times u body → (1 ≤ times u body → is_replaced new u ≡ false) → is_replaced new u ≡ false
    go true e l r = subst (λ (z : ℕ). is_replaced new z ≡ false) (e refl) a.0
    go false e l r = r (omega (arith, l))
times_of_loops new (Pre work pairs p q) a u l = go (times u p) refl (times_of_loops new p a.0 u) (times_of_loops new q a.1 u)
  where
    go : (k : ℕ) → k ≡ times u p → (1 ≤ times u p → is_replaced new u ≡ false) → (1 ≤ times u q → is_replaced new u ≡ false) → is_replaced new u ≡ false
    go zero e r t = t (omega (arith, e, l))
    go (suc k) e r t = r (omega (arith, e))
times_of_loops new (Leaf lhs terms guards kernel) a u l = absurd (omega (arith, l))

-- Named loops ---------------------------------------------------------------------------------------------------------

-- one of these loops is counted
pub head_times : (hs : List Head) (u : ℕ) → is_head hs u ≡ true → 1 ≤ head_sum (one_at u) hs
head_times [] u h = absurd (cc)
head_times (h ∷ hs) u i = go (nat_eq u h.var) (eqb-true u h.var) i (head_times hs u)
  where
    here : (t : Bool) → t ≡ true → 1 ≤ (if t then 1 else 0) + head_sum (one_at u) hs
    here true e = omega arith
    here false e = absurd (cc)

    go : (t : Bool) → (t ≡ true → u ≡ h.var) → (t || is_head hs u) ≡ true → (is_head hs u ≡ true → 1 ≤ head_sum (one_at u) hs) → 1 ≤ (if nat_eq h.var u then 1 else 0) + head_sum (one_at u) hs
    go true e i r = here (nat_eq h.var u) (eq-eqb h.var u (sym (e refl)))
    go false e i r = let k = r i in omega (arith, k)

-- and no other is
pub no_head_times : (hs : List Head) (u : ℕ) → is_head hs u ≡ false → head_sum (one_at u) hs ≡ 0
no_head_times [] u h = refl
no_head_times (h ∷ hs) u i =
    let o = or_parts (nat_eq u h.var) (is_head hs u) i in
    let a = no_head_times hs u o.1 in
    let e : nat_eq h.var u ≡ false = ne_eqb h.var u (λ q. let t : nat_eq u h.var ≡ true = eq-eqb u h.var (sym q) in let f = o.0 in absurd (cc)) in
    let b : ◌≡◌ {A = ℕ} (if nat_eq h.var u then 1 else 0) 0 = ap (λ (t : Bool). let one : ℕ = 1 in if t then one else 0) e in omega (arith, a, b)

apart_heads : (hs : List Head) (u : ℕ) → AllByRecursion (λ y. nat_eq u y ≡ false) (map (λ (h : Head). h.var) hs) → is_head hs u ≡ false
apart_heads [] u a = refl
apart_heads (h ∷ hs) u a = ap (λ (t : Bool). t || is_head hs u) a.0 ∙ apart_heads hs u a.1

-- loops that differ stand once
pub distinct_times : (hs : List Head) (u : ℕ) → IsDistinct nat_eq (map (λ (h : Head). h.var) hs) → head_sum (one_at u) hs ≤ 1
unfolding IsDistinct
distinct_times [] u d = omega arith
distinct_times (h ∷ hs) u d = go (nat_eq h.var u) (eqb-true h.var u) (distinct_times hs u d.1)
  where
    go : (t : Bool) → (t ≡ true → h.var ≡ u) → head_sum (one_at u) hs ≤ 1 → (if t then 1 else 0) + head_sum (one_at u) hs ≤ 1
    go true e r = let k = no_head_times hs u (subst (λ (z : ℕ). is_head hs z ≡ false) (e refl) (apart_heads hs h.var d.0)) in omega (arith, k)
    go false e r = omega (arith, r)

-- The tree after a cut ------------------------------------------------------------------------------------------------

pub holds_map : (v : ℕ) (P Q : Tree → Loops → Type 0) → ((t : Tree) (a : Loops) → P t a → Q t a) → (tree : Tree) (a : Loops) → HoldsAt v P tree a → HoldsAt v Q tree a
holds_map v P Q f (Loop u n walk body) a h = go (nat_eq u v) h (holds_map v P Q f body (also a u))
  where
    go : (t : Bool) → MatchBool t (P (Loop u n walk body) a) (HoldsAt v P body (also a u)) → (HoldsAt v P body (also a u) → HoldsAt v Q body (also a u)) → MatchBool t (Q (Loop u n walk body) a) (HoldsAt v Q body (also a u))
    go true h r = f (Loop u n walk body) a h
    go false h r = r h
holds_map v P Q f (Pre work pairs p q) a h = (holds_map v P Q f p a h.0, holds_map v P Q f q a h.1)
holds_map v P Q f (Leaf lhs terms guards kernel) a h = tt

-- where h is a loop, it and the loops hs begin the tree
abbrev pub BeginAt : Head → List Head → Tree → Loops → Type 0
BeginAt h hs tree a = HoldsAt h.var (λ t around. BeginsWith (h ∷ hs) t) tree a

-- what comes in the place of a loop with this body and of the loops hs
abbrev pub in_place : List Head → List Head → List ℕ → Tree → Tree
in_place hs heads gs body = loops_around heads (guarded gs (without_loops (length hs) body))

-- a loop after the cut, where the test says whether it goes
abbrev pub loop_after : Head → List Head → List Head → List ℕ → Bool → ℕ → ℕ → Option Walk → Tree → Tree
loop_after h hs heads gs goes u n walk body = if goes then in_place hs heads gs body else Loop u n walk (cut_tree (h ∷ hs) heads gs body)

module _ (h : Head) (hs heads : List Head) (gs : List ℕ) where
  -- the loops that went are gone, and those that came are there
  pub sum_cut : (f : ℕ → ℕ) (tree : Tree) (a : Loops) → times h.var tree ≡ 1 → BeginAt h hs tree a → loop_sum f (cut_tree (h ∷ hs) heads gs tree) + head_sum f (h ∷ hs) ≡ loop_sum f tree + head_sum f heads
  sum_cut f (Loop u n walk body) a once at = go (nat_eq u h.var) once at (sum_cut f body (also a u))
    where
      go : (t : Bool) → (if t then 1 else 0) + times h.var body ≡ 1 → MatchBool t (BeginsWith (h ∷ hs) (Loop u n walk body)) (BeginAt h hs body (also a u))
          → (times h.var body ≡ 1 → BeginAt h hs body (also a u) → loop_sum f (cut_tree (h ∷ hs) heads gs body) + (f h.var + head_sum f hs) ≡ loop_sum f body + head_sum f heads)
          → loop_sum f (loop_after h hs heads gs t u n walk body) + (f h.var + head_sum f hs) ≡ f u + loop_sum f body + head_sum f heads
      go true once at r =
          let x = sum_around f heads (guarded gs (without_loops (length hs) body)) in
          let y = sum_guarded f gs (without_loops (length hs) body) in
          let z = sum_without f hs body at.3 in
          let e = ap f at.0 in omega (arith, x, y, z, e)
      go false once at r = let k = r (omega (arith, once)) at in omega (arith, k)
  sum_cut f (Pre work pairs p q) a once at = go (times h.var p) refl (sum_cut f p a) (sum_cut f q a)
    where
      go : (k : ℕ) → k ≡ times h.var p
          → (times h.var p ≡ 1 → BeginAt h hs p a → loop_sum f (cut_tree (h ∷ hs) heads gs p) + (f h.var + head_sum f hs) ≡ loop_sum f p + head_sum f heads)
          → (times h.var q ≡ 1 → BeginAt h hs q a → loop_sum f (cut_tree (h ∷ hs) heads gs q) + (f h.var + head_sum f hs) ≡ loop_sum f q + head_sum f heads)
          → loop_sum f (cut_tree (h ∷ hs) heads gs p) + loop_sum f (cut_tree (h ∷ hs) heads gs q) + (f h.var + head_sum f hs) ≡ loop_sum f p + loop_sum f q + head_sum f heads
      go zero e r t =
          let x = ap (loop_sum f) (at_none h.var (λ n walk body. loops_around heads (guarded gs (without_loops (length hs) body))) p (sym e)) in
          let y = t (omega (arith, e, once)) at.1 in omega (arith, x, y)
      go (suc k) e r t =
          let x = ap (loop_sum f) (at_none h.var (λ n walk body. loops_around heads (guarded gs (without_loops (length hs) body))) q (omega (arith, e, once))) in
          let y = r (omega (arith, e, once)) at.0 in omega (arith, x, y)
  sum_cut f (Leaf lhs terms guards kernel) a once at = absurd (omega (arith, once))
