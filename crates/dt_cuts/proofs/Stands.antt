-- Where loops stand in the tree of a lawful schedule.
use Rattle.std.proofs.Common.{◌≡◌, ℕ, ◌+◌, ◌<◌, ◌≤◌, Bool, true, false, ◌||◌, ◌&&◌, List, [], ◌∷◌, ◌⊎◌, inl, inr, length, Option, Some, None, refl, sym, ap, ◌∙◌, subst, arith}
use Rattle.std.specs.Prelude.{if◌then◌else◌, is_some, nat_eq, slice_index, MatchBool}
use Rattle.std.specs.List.{AllByRecursion}
use Rattle.std.proofs.lemmas.Bool.{eqb-true, and_parts, or_cases, or_parts, or_left, or_right, false_from_ne_true}
use Rattle.dt_nest.specs.declared.loops.Walk.{Walk}
use Rattle.dt_nest.proofs.Each.{all_map}
use Rattle.dt_nest.specs.Tree.{Tree, Loop, Pre, Leaf, times, has_loop, is_kernel_leaf}
use Rattle.dt_nest.specs.Questions.{is_fixed, loops_to, is_in, begins_with, chain_from}
use Rattle.dt_nest.specs.Schedule.{Schedule}
use Rattle.dt_nest.specs.Lawful.{Loops, also, IsNamed, IsPlain}
use Rattle.dt_cuts.specs.Cutting.{BeginsWith, HoldsAt, heads_of}
use Rattle.dt_cuts.proofs.CutCounts.{times_has}

-- a loop of the tree has a name
pub loop_below : (s : Schedule) (v : ℕ) (t : Tree) → IsNamed s t → has_loop v t ≡ true → v < length s.names
loop_below s v (Loop u n walk body) k h = go (nat_eq u v) (eqb-true u v) h (loop_below s v body k.3)
  where
    go : (b : Bool) → (b ≡ true → u ≡ v) → (b || has_loop v body) ≡ true → (has_loop v body ≡ true → v < length s.names) → v < length s.names
    go true e h r = subst (λ (z : ℕ). z < length s.names) (e refl) k.0
    go false e h r = r h
loop_below s v (Pre work pairs producer consumer) k h = go (has_loop v producer) (loop_below s v producer k.2) h (loop_below s v consumer k.3)
  where
    go : (b : Bool) → (b ≡ true → v < length s.names) → (b || has_loop v consumer) ≡ true → (has_loop v consumer ≡ true → v < length s.names) → v < length s.names
    go true e h r = e refl
    go false e h r = r h
loop_below s v (Leaf lhs terms guards kernel) k h = absurd (cc)

-- Loops that stand once ---------------------------------------------------------------------------------------------------

-- a loop that stands once stands in one branch of a precompute node
one_branch : (v : ℕ) (p q : Tree) → times v p + times v q ≤ 1 → has_loop v p ≡ true → has_loop v q ≡ false
one_branch v p q l h = false_from_ne_true (has_loop v q) (λ k. omega (arith, l, times_has v p h, times_has v q k))

-- a loop inside another differs from it
inside_differs : (u n : ℕ) (walk : Option Walk) (body : Tree) (z : ℕ) → times z (Loop u n walk body) ≤ 1 → has_loop z body ≡ true → nat_eq u z ≡ false
inside_differs u n walk body z l h =
    false_from_ne_true (nat_eq u z) (λ e. let m : times z (Loop u n walk body) ≡ 1 + times z body = ap (λ b. (if b then 1 else 0) + times z body) e in omega (arith, l, m, times_has z body h))

-- Loops that are neither walked nor substituted ---------------------------------------------------------------------------

-- each loop v of the tree is neither walked nor substituted
abbrev pub ArePlain : ℕ → Tree → Type 0
ArePlain v (Loop u n walk body) = (nat_eq u v ≡ true → IsPlain walk body) × ArePlain v body
ArePlain v (Pre work pairs producer consumer) = ArePlain v producer × ArePlain v consumer
ArePlain v (Leaf lhs terms guards kernel) = Unit {0}

-- a loop that isn't in the tree is neither there
plain_absent : (v : ℕ) (tree : Tree) → times v tree ≡ 0 → ArePlain v tree
plain_absent v (Loop u n walk body) z = go (nat_eq u v) z (λ z. plain_absent v body z)
  where
    go : (b : Bool) → (if b then 1 else 0) + times v body ≡ 0 → (times v body ≡ 0 → ArePlain v body) → (b ≡ true → IsPlain walk body) × ArePlain v body
    go true z r = absurd (omega arith)
    go false z r = ((λ e. absurd (cc)), r (omega arith))
plain_absent v (Pre work pairs producer consumer) z = (plain_absent v producer (omega arith), plain_absent v consumer (omega arith))
plain_absent v (Leaf lhs terms guards kernel) z = tt

-- a loop that isn't walked has no walk
pub no_walk : (walk : Option Walk) → is_some walk ≡ false → walk ≡ None
no_walk None e = refl
no_walk (Some k) e = absurd (cc)

-- a loop that stands once and isn't fixed is neither
plain_loops : (v : ℕ) (tree : Tree) → is_fixed v tree ≡ false → times v tree ≤ 1 → ArePlain v tree
plain_loops v (Loop u n walk body) e l = go (nat_eq u v) e l (λ e l. plain_loops v body e l)
  where
    go : (b : Bool) → (if b then is_some walk || is_kernel_leaf body else is_fixed v body) ≡ false → (if b then 1 else 0) + times v body ≤ 1
        → (is_fixed v body ≡ false → times v body ≤ 1 → ArePlain v body) → (b ≡ true → IsPlain walk body) × ArePlain v body
    go true e l r = let p = or_parts (is_some walk) (is_kernel_leaf body) e in ((λ _. (no_walk walk p.0, p.1)), plain_absent v body (omega arith))
    go false e l r = ((λ e. absurd (cc)), r e (omega arith))
plain_loops v (Pre work pairs producer consumer) e l =
    let p = or_parts (is_fixed v producer) (is_fixed v consumer) e in
    (plain_loops v producer p.0 (omega arith), plain_loops v consumer p.1 (omega arith))
plain_loops v (Leaf lhs terms guards kernel) e l = tt

-- so where no loop stands twice, loops that aren't fixed are neither
pub all_plain : (tree : Tree) → ((v : ℕ) → times v tree ≤ 1) → (vs : List ℕ) → AllByRecursion (λ v. is_fixed v tree ≡ false) vs → AllByRecursion (λ v. ArePlain v tree) vs
all_plain tree once = all_map (λ v. is_fixed v tree ≡ false) (λ v. ArePlain v tree) (λ v e. plain_loops v tree e (once v))

-- At the place of a loop --------------------------------------------------------------------------------------------------

-- where the loop isn't in the tree, anything holds there
holds_at_none : (v : ℕ) (P : Tree → Loops → Type 0) (t : Tree) (around : Loops) → has_loop v t ≡ false → HoldsAt v P t around
holds_at_none v P (Loop u n walk body) around h = go (nat_eq u v) h (holds_at_none v P body (also around u))
  where
    go : (b : Bool) → (b || has_loop v body) ≡ false → (has_loop v body ≡ false → HoldsAt v P body (also around u)) → MatchBool b (P (Loop u n walk body) around) (HoldsAt v P body (also around u))
    go true h r = absurd (cc)
    go false h r = r h
holds_at_none v P (Pre work pairs producer consumer) around h =
    let p = or_parts (has_loop v producer) (has_loop v consumer) h in (holds_at_none v P producer around p.0, holds_at_none v P consumer around p.1)
holds_at_none v P (Leaf lhs terms guards kernel) around h = tt

-- two facts there give a third there
pub holds_at_both : (v : ℕ) (P Q R : Tree → Loops → Type 0) → ((t : Tree) (around : Loops) → P t around → Q t around → R t around)
    → (t : Tree) (around : Loops) → HoldsAt v P t around → HoldsAt v Q t around → HoldsAt v R t around
holds_at_both v P Q R f (Loop u n walk body) around p q = go (nat_eq u v) p q (holds_at_both v P Q R f body (also around u))
  where
    go : (b : Bool) → MatchBool b (P (Loop u n walk body) around) (HoldsAt v P body (also around u)) → MatchBool b (Q (Loop u n walk body) around) (HoldsAt v Q body (also around u))
        → (HoldsAt v P body (also around u) → HoldsAt v Q body (also around u) → HoldsAt v R body (also around u)) → MatchBool b (R (Loop u n walk body) around) (HoldsAt v R body (also around u))
    go true p q r = f (Loop u n walk body) around p q
    go false p q r = r p q
holds_at_both v P Q R f (Pre work pairs producer consumer) around p q =
    (holds_at_both v P Q R f producer around p.0 q.0, holds_at_both v P Q R f consumer around p.1 q.1)
holds_at_both v P Q R f (Leaf lhs terms guards kernel) around p q = tt

-- the loops that stand around a loop are around its place
pub holds_at_outer : (v : ℕ) (us : List ℕ) (t : Tree) (around : Loops) → times v t ≤ 1 → AllByRecursion (λ z. (is_in (loops_to v t) z || around z) ≡ true) us
    → HoldsAt v (λ t around. AllByRecursion (λ z. around z ≡ true) us) t around
holds_at_outer v us (Loop u n walk body) around l h = go (nat_eq u v) l h (holds_at_outer v us body (also around u))
  where
    inwards : (p q r : Bool) → ((p || q) || r) ≡ (q || (p || r))
    inwards true true r = refl
    inwards true false r = refl
    inwards false q r = refl

    go : (b : Bool) → (if b then 1 else 0) + times v body ≤ 1 → AllByRecursion (λ z. (is_in (if b then [] else u ∷ loops_to v body) z || around z) ≡ true) us
        → (times v body ≤ 1 → AllByRecursion (λ z. (is_in (loops_to v body) z || also around u z) ≡ true) us → HoldsAt v (λ t around. AllByRecursion (λ z. around z ≡ true) us) body (also around u))
        → MatchBool b (AllByRecursion (λ z. around z ≡ true) us) (HoldsAt v (λ t around. AllByRecursion (λ z. around z ≡ true) us) body (also around u))
    go true l h r = h
    go false l h r =
        r (omega arith) (all_map (λ z. (is_in (u ∷ loops_to v body) z || around z) ≡ true) (λ z. (is_in (loops_to v body) z || also around u z) ≡ true)
        (λ z k. sym (inwards (nat_eq z u) (is_in (loops_to v body) z) (around z)) ∙ k) us h)
holds_at_outer v us (Pre work pairs producer consumer) around l h =
    go (has_loop v producer) refl h (holds_at_outer v us producer around (omega arith)) (holds_at_outer v us consumer around (omega arith))
  where
    go : (b : Bool) → has_loop v producer ≡ b → AllByRecursion (λ z. (is_in (if b then loops_to v producer else loops_to v consumer) z || around z) ≡ true) us
        → (AllByRecursion (λ z. (is_in (loops_to v producer) z || around z) ≡ true) us → HoldsAt v (λ t around. AllByRecursion (λ z. around z ≡ true) us) producer around)
        → (AllByRecursion (λ z. (is_in (loops_to v consumer) z || around z) ≡ true) us → HoldsAt v (λ t around. AllByRecursion (λ z. around z ≡ true) us) consumer around)
        → HoldsAt v (λ t around. AllByRecursion (λ z. around z ≡ true) us) producer around × HoldsAt v (λ t around. AllByRecursion (λ z. around z ≡ true) us) consumer around
    go true e h p q = (p h, holds_at_none v (λ t around. AllByRecursion (λ z. around z ≡ true) us) consumer around (one_branch v producer consumer l e))
    go false e h p q = (holds_at_none v (λ t around. AllByRecursion (λ z. around z ≡ true) us) producer around e, q h)
holds_at_outer v us (Leaf lhs terms guards kernel) around l h = tt

-- a loop is none of those around it
pub outer_differ : (v : ℕ) (t : Tree) → AllByRecursion (λ z. nat_eq z v ≡ false) (loops_to v t)
outer_differ v (Loop u n walk body) = go (nat_eq u v) refl (outer_differ v body)
  where
    go : (b : Bool) → nat_eq u v ≡ b → AllByRecursion (λ z. nat_eq z v ≡ false) (loops_to v body) → AllByRecursion (λ z. nat_eq z v ≡ false) (if b then [] else u ∷ loops_to v body)
    go true e r = tt
    go false e r = (e, r)
outer_differ v (Pre work pairs producer consumer) = go (has_loop v producer) (outer_differ v producer) (outer_differ v consumer)
  where
    go : (b : Bool) → AllByRecursion (λ z. nat_eq z v ≡ false) (loops_to v producer) → AllByRecursion (λ z. nat_eq z v ≡ false) (loops_to v consumer)
        → AllByRecursion (λ z. nat_eq z v ≡ false) (if b then loops_to v producer else loops_to v consumer)
    go true p q = p
    go false p q = q
outer_differ v (Leaf lhs terms guards kernel) = tt

-- Loops each of which is the body of the one before -----------------------------------------------------------------------

-- the loops that begin a tree are its loops
begins_has : (vs : List ℕ) (t : Tree) → begins_with vs t ≡ true → AllByRecursion (λ z. has_loop z t ≡ true) vs
begins_has [] t h = tt
begins_has (v ∷ vs) (Loop u n walk body) h =
    let p = and_parts (nat_eq u v) (begins_with vs body) h in
    (or_left (nat_eq u v) (has_loop v body) p.0, all_map (λ z. has_loop z body ≡ true) (λ z. (nat_eq u z || has_loop z body) ≡ true) (λ z k. or_right (nat_eq u z) (has_loop z body) k) vs (begins_has vs body p.1))
begins_has (v ∷ vs) (Pre work pairs producer consumer) h = absurd (cc)
begins_has (v ∷ vs) (Leaf lhs terms guards kernel) h = absurd (cc)

-- so are those of a chain
pub chain_has : (v : ℕ) (vs : List ℕ) (t : Tree) → chain_from v vs t ≡ true → AllByRecursion (λ z. has_loop z t ≡ true) (v ∷ vs)
chain_has v vs (Loop u n walk body) h = go (nat_eq u v) refl h (chain_has v vs body)
  where
    inner : (zs : List ℕ) → AllByRecursion (λ z. has_loop z body ≡ true) zs → AllByRecursion (λ z. (nat_eq u z || has_loop z body) ≡ true) zs
    inner = all_map (λ z. has_loop z body ≡ true) (λ z. (nat_eq u z || has_loop z body) ≡ true) (λ z k. or_right (nat_eq u z) (has_loop z body) k)

    go : (b : Bool) → nat_eq u v ≡ b → (if b then begins_with vs body else chain_from v vs body) ≡ true → (chain_from v vs body ≡ true → AllByRecursion (λ z. has_loop z body ≡ true) (v ∷ vs))
        → AllByRecursion (λ z. (nat_eq u z || has_loop z body) ≡ true) (v ∷ vs)
    go true e h r = (or_left (nat_eq u v) (has_loop v body) e, inner vs (begins_has vs body h))
    go false e h r = inner (v ∷ vs) (r h)
chain_has v vs (Pre work pairs producer consumer) h =
    go (or_cases (chain_from v vs producer) (chain_from v vs consumer) h) (chain_has v vs producer) (chain_has v vs consumer)
  where
    go : (chain_from v vs producer ≡ true) ⊎ (chain_from v vs consumer ≡ true) → (chain_from v vs producer ≡ true → AllByRecursion (λ z. has_loop z producer ≡ true) (v ∷ vs))
        → (chain_from v vs consumer ≡ true → AllByRecursion (λ z. has_loop z consumer ≡ true) (v ∷ vs)) → AllByRecursion (λ z. (has_loop z producer || has_loop z consumer) ≡ true) (v ∷ vs)
    go (inl h) p q =
        all_map (λ z. has_loop z producer ≡ true) (λ z. (has_loop z producer || has_loop z consumer) ≡ true) (λ z k. or_left (has_loop z producer) (has_loop z consumer) k) (v ∷ vs) (p h)
    go (inr h) p q =
        all_map (λ z. has_loop z consumer ≡ true) (λ z. (has_loop z producer || has_loop z consumer) ≡ true) (λ z k. or_right (has_loop z producer) (has_loop z consumer) k) (v ∷ vs) (q h)
chain_has v vs (Leaf lhs terms guards kernel) h = absurd (cc)

-- where no loop stands twice, the first of a chain differs from the others
pub chain_differs : (v : ℕ) (vs : List ℕ) (t : Tree) → ((z : ℕ) → times z t ≤ 1) → chain_from v vs t ≡ true → AllByRecursion (λ z. nat_eq v z ≡ false) vs
chain_differs v vs (Loop u n walk body) once h = go (nat_eq u v) (eqb-true u v) h (chain_differs v vs body (λ z. let l = once z in omega arith))
  where
    go : (b : Bool) → (b ≡ true → u ≡ v) → (if b then begins_with vs body else chain_from v vs body) ≡ true → (chain_from v vs body ≡ true → AllByRecursion (λ z. nat_eq v z ≡ false) vs)
        → AllByRecursion (λ z. nat_eq v z ≡ false) vs
    go true e h r =
        all_map (λ z. has_loop z body ≡ true) (λ z. nat_eq v z ≡ false) (λ z k. ap (λ y. nat_eq y z) (sym (e refl)) ∙ inside_differs u n walk body z (once z) k) vs (begins_has vs body h)
    go false e h r = r h
chain_differs v vs (Pre work pairs producer consumer) once h =
    go (or_cases (chain_from v vs producer) (chain_from v vs consumer) h) (chain_differs v vs producer (λ z. let l = once z in omega arith)) (chain_differs v vs consumer (λ z. let l = once z in omega arith))
  where
    go : (chain_from v vs producer ≡ true) ⊎ (chain_from v vs consumer ≡ true) → (chain_from v vs producer ≡ true → AllByRecursion (λ z. nat_eq v z ≡ false) vs)
        → (chain_from v vs consumer ≡ true → AllByRecursion (λ z. nat_eq v z ≡ false) vs) → AllByRecursion (λ z. nat_eq v z ≡ false) vs
    go (inl h) p q = p h
    go (inr h) p q = q h
chain_differs v vs (Leaf lhs terms guards kernel) once h = absurd (cc)

-- a loop of the tree is a chain by itself
pub chain_alone : (v : ℕ) (t : Tree) → has_loop v t ≡ true → chain_from v [] t ≡ true
chain_alone v (Loop u n walk body) h = go (nat_eq u v) h (chain_alone v body)
  where
    go : (b : Bool) → (b || has_loop v body) ≡ true → (has_loop v body ≡ true → chain_from v [] body ≡ true) → (if b then true else chain_from v [] body) ≡ true
    go true h r = refl
    go false h r = r h
chain_alone v (Pre work pairs producer consumer) h = go (or_cases (has_loop v producer) (has_loop v consumer) h) (chain_alone v producer) (chain_alone v consumer)
  where
    go : (has_loop v producer ≡ true) ⊎ (has_loop v consumer ≡ true) → (has_loop v producer ≡ true → chain_from v [] producer ≡ true) → (has_loop v consumer ≡ true → chain_from v [] consumer ≡ true)
        → (chain_from v [] producer || chain_from v [] consumer) ≡ true
    go (inl h) p q = or_left (chain_from v [] producer) (chain_from v [] consumer) (p h)
    go (inr h) p q = or_right (chain_from v [] producer) (chain_from v [] consumer) (q h)
chain_alone v (Leaf lhs terms guards kernel) h = absurd (cc)

-- a tree begins with loops that are neither walked nor substituted
begins_plain : (s : Schedule) (vs : List ℕ) (tree : Tree) → IsNamed s tree → is_kernel_leaf tree ≡ false → AllByRecursion (λ v. ArePlain v tree) vs → begins_with vs tree ≡ true → BeginsWith (heads_of s vs) tree
begins_plain s [] tree h k p e = k
begins_plain s (v ∷ vs) (Loop u n walk body) h k p e =
    let q = and_parts (nat_eq u v) (begins_with vs body) e in
    let t = eqb-true u v q.0 in
    let f = p.0.0 q.0 in (
      t,
      sym h.1 ∙ ap (slice_index s.extents) t,
      f.0,
      begins_plain s vs body h.3 f.1 (all_map (λ v. ArePlain v (Loop u n walk body)) (λ v. ArePlain v body) (λ v a. a.1) vs p.1) q.1,
    )
begins_plain s (v ∷ vs) (Pre work pairs producer consumer) h k p e = absurd (cc)
begins_plain s (v ∷ vs) (Leaf lhs terms guards kernel) h k p e = absurd (cc)

-- what holds of each tree that begins with the chain's loops holds at the first of them
pub holds_at_chain : (s : Schedule) (v : ℕ) (vs : List ℕ) (P : Tree → Loops → Type 0) → ((t : Tree) (around : Loops) → BeginsWith (heads_of s (v ∷ vs)) t → P t around)
    → (tree : Tree) (around : Loops) → IsNamed s tree → times v tree ≤ 1 → AllByRecursion (λ u. ArePlain u tree) (v ∷ vs) → chain_from v vs tree ≡ true → HoldsAt v P tree around
holds_at_chain s v vs P here (Loop u n walk body) around h l p e =
    go (nat_eq u v) refl e
    (λ m e. holds_at_chain s v vs P here body (also around u) h.3 m (all_map (λ x. ArePlain x (Loop u n walk body)) (λ x. ArePlain x body) (λ x a. a.1) (v ∷ vs) p) e)
  where
    go : (b : Bool) → nat_eq u v ≡ b → (if b then begins_with vs body else chain_from v vs body) ≡ true
        → (times v body ≤ 1 → chain_from v vs body ≡ true → HoldsAt v P body (also around u)) → MatchBool b (P (Loop u n walk body) around) (HoldsAt v P body (also around u))
    go true q e r = here (Loop u n walk body) around (begins_plain s (v ∷ vs) (Loop u n walk body) h refl p (ap (λ b. b && begins_with vs body) q ∙ e))
    go false q e r = r (omega arith) e
holds_at_chain s v vs P here (Pre work pairs producer consumer) around h l p e =
    go (or_cases (chain_from v vs producer) (chain_from v vs consumer) e)
    (λ m e. holds_at_chain s v vs P here producer around h.2 m (all_map (λ x. ArePlain x (Pre work pairs producer consumer)) (λ x. ArePlain x producer) (λ x a. a.0) (v ∷ vs) p) e)
    (λ m e. holds_at_chain s v vs P here consumer around h.3 m (all_map (λ x. ArePlain x (Pre work pairs producer consumer)) (λ x. ArePlain x consumer) (λ x a. a.1) (v ∷ vs) p) e)
  where
    go : (chain_from v vs producer ≡ true) ⊎ (chain_from v vs consumer ≡ true)
        → (times v producer ≤ 1 → chain_from v vs producer ≡ true → HoldsAt v P producer around) → (times v consumer ≤ 1 → chain_from v vs consumer ≡ true → HoldsAt v P consumer around)
        → HoldsAt v P producer around × HoldsAt v P consumer around
    go (inl e) p q = (p (omega arith) e, holds_at_none v P consumer around (one_branch v producer consumer l (chain_has v vs producer e).0))
    go (inr e) p q = (holds_at_none v P producer around (one_branch v consumer producer (omega arith) (chain_has v vs consumer e).0), q (omega arith) e)
holds_at_chain s v vs P here (Leaf lhs terms guards kernel) around h l p e = absurd (cc)
