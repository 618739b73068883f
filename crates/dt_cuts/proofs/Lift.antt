-- A law at one loop holds for the whole nest.
use Rattle.std.proofs.Common.{◌≡◌, ℕ, ◌+◌, ◌≤◌, Bool, true, false, ◌||◌, List, ◌++◌, refl, sym, ap, ◌∙◌, subst, arith}
use Rattle.std.specs.Prelude.{Option, MatchBool, if◌then◌else◌, nat_eq}
use Rattle.std.proofs.Math.Path.{fun_ext}
use Rattle.std.proofs.lemmas.Bool.{eqb-true, eq-eqb}
use Rattle.dt_nest.specs.declared.loops.Walk.{Walk}
use Rattle.dt_nest.specs.declared.derivations.Derived.{Derived}
use Rattle.dt_nest.specs.Tree.{Tree, Loop, Pre, Leaf, times, has_loop}
use Rattle.dt_nest.specs.Schedule.{Schedule}
use Rattle.dt_nest.specs.Meaning.{World, Env, Entries, bind, known, val_of, with_work, under, nest_sum}
use Rattle.dt_nest.specs.Lawful.{is_replaced, Loops, also, Follows, AllFollow, AreLoops}
use Rattle.dt_nest.proofs.SumLaws.{sum_below_same}
use Rattle.dt_cuts.specs.Place.{at_loop}
use Rattle.dt_cuts.specs.Cutting.{HoldsAt}
use Rattle.dt_nest.proofs.Agree.{known_agree, walk_follows, takes_agree, leaf_agree}
use Rattle.dt_cuts.proofs.Push.{known-append, known_whole}
use Rattle.dt_cuts.proofs.Standing.{Stands, stands_below, stands_producer, stands_consumer}

-- What holds where v is a loop; no loop outside its trees is replaced by the new derivations.
abbrev pub IsSite : List Derived → ℕ → (Tree → Loops → Env → Type 0) → Tree → Loops → Env → Type 0
IsSite new v P (Loop u n walk body) around name =
    MatchBool (nat_eq u v) (P (Loop u n walk body) around name) ((is_replaced new u ≡ false) × IsSite new v P body (also around u) name)
IsSite new v P (Pre work pairs producer consumer) around name =
    IsSite new v P producer around (under pairs name) × IsSite new v P consumer around name
IsSite new v P (Leaf lhs terms guards kernel) around name = Unit {0}

-- no loop around is replaced by the new derivations
abbrev pub AreApart : List Derived → Loops → Type 0
AreApart new around = (u : ℕ) → around u ≡ true → is_replaced new u ≡ false

apart_also : (new : List Derived) (around : Loops) (v : ℕ) → AreApart new around → is_replaced new v ≡ false → AreApart new (also around v)
apart_also new around v a h u k = go (nat_eq u v) (eqb-true u v) k
  where
    go : (b : Bool) → (b ≡ true → u ≡ v) → (b || around u) ≡ true → is_replaced new u ≡ false
    go true e k = ap (is_replaced new) (e refl) ∙ h
    go false e k = a u k

-- what follows from loops that the new derivations do not replace has its old value
known_same : (w : World) (ds new : List Derived) (around : Loops) (name env : Env) → AreApart new around → (u : ℕ) → Follows ds around name u → known w (ds ++ new) name env u ≡ known w ds name env u
known_same w ds new around name env a u f =
    ap (λ (k : Env). k u) (known-append w ds new name env) ∙ known_agree w ds around name (known w new name env) env (λ z k. known_whole w new z (a z k) name env) u f

-- other numbers for workspaces keep the fact
abbrev pub StaysWithWorks : World → (Entries → Type 0) → Type 0
StaysWithWorks w X = (x : Entries) (k : ℕ) (f : List ℕ → ℕ) → X x → X (with_work x (w.tensors + k) f)

-- a change at loop v keeps what is added there, where P holds, for numbers of which X holds
abbrev pub KeepsThere : (Entries → Type 0) → World → List Derived → List Derived → ℕ → (ℕ → Option Walk → Tree → Tree) → (Tree → Loops → Env → Type 0) → Type 0
KeepsThere X w ds new v change P =
    (n : ℕ) (walk : Option Walk) (body : Tree) (around : Loops) (name : Env) → P (Loop v n walk body) around name
    → (x : Entries) → X x → (env : Env) (c : List ℕ) → nest_sum w (ds ++ new) (change n walk body) x name env c ≡ nest_sum w ds (Loop v n walk body) x name env c

module _ (X : Entries → Type 0) (w : World) (stays : StaysWithWorks w X) (ds new : List Derived) (v : ℕ) (change : ℕ → Option Walk → Tree → Tree) (P : Tree → Loops → Env → Type 0) (keeps : KeepsThere X w ds new v change P) where
  -- A change at loop v that keeps what is added there keeps what the nest adds.
  pub lift : (tree : Tree) (around : Loops) (name : Env) → AllFollow ds tree around name → AreLoops ds tree → AreApart new around → IsSite new v P tree around name
      → (x : Entries) → X x → (env : Env) (c : List ℕ) → nest_sum w (ds ++ new) (at_loop v change tree) x name env c ≡ nest_sum w ds tree x name env c
  unfolding nest_sum
  lift (Loop u n walk body) around name f l a site x z env c =
      go (nat_eq u v) (eqb-true u v) site (λ b t i. lift body (also around u) name f.3 l.1 b t x z (bind env u i) c)
    where
      go : (b : Bool) → (b ≡ true → u ≡ v) → MatchBool b (P (Loop u n walk body) around name) ((is_replaced new u ≡ false) × IsSite new v P body (also around u) name)
          → (AreApart new (also around u) → IsSite new v P body (also around u) name → (i : ℕ) → nest_sum w (ds ++ new) (at_loop v change body) x name (bind env u i) c ≡ nest_sum w ds body x name (bind env u i) c)
          → nest_sum w (ds ++ new) (if b then change n walk body else Loop u n walk (at_loop v change body)) x name env c ≡ nest_sum w ds (Loop u n walk body) x name env c
      go true e site r =
          keeps n walk body around name (subst (λ (z : ℕ). P (Loop z n walk body) around name) (e refl) site) x z env c
          ∙ ap (λ (z : ℕ). nest_sum w ds (Loop z n walk body) x name env c) (sym (e refl))
      go false e site r =
          let apart = apart_also new around u a site.0 in
          sum_below_same n _ _ (λ i k.
          let b = r apart site.1 i in
          let t = takes_agree w x (λ y. Follows ds (also around u) name (name y)) (val_of w (ds ++ new) name (bind env u i)) (val_of w ds name (bind env u i))
          (λ y q. known_same w ds new (also around u) name (bind env u i) apart (name y) q) walk u name (walk_follows ds walk u around name l.0 f.2) in
          cc)
  lift (Pre work pairs producer consumer) around name f l a site x z env c =
      let p = fun_ext (λ j. lift producer around (under pairs name) f.1 l.0 a site.0 x z env j) in
      ap (λ q. nest_sum w (ds ++ new) (at_loop v change consumer) (with_work x (w.tensors + work) q) name env c) p
      ∙ lift consumer around name f.2 l.1 a site.1 (with_work x (w.tensors + work) (λ j. nest_sum w ds producer x (under pairs name) env j)) (stays x work (λ j. nest_sum w ds producer x (under pairs name) env j) z) env c
  lift (Leaf lhs terms guards kernel) around name f l a site x z env c =
      leaf_agree w x (λ z. Follows ds around name (name z)) (val_of w (ds ++ new) name env) (val_of w ds name env) (λ z q. known_same w ds new around name env a (name z) q) lhs terms guards c f.0 f.1

-- The place of a change, where each replaced loop stands once and in the tree that is changed -----------------------------

-- a tree at its place, of which Q holds
abbrev pub StandsWith : Schedule → List Derived → (Tree → Loops → Type 0) → Tree → Loops → Env → Type 0
StandsWith s ds Q tree around name = Stands s ds tree around name × Q tree around

module _ (s : Schedule) (ds new : List Derived) (v : ℕ) (Q : Tree → Loops → Type 0) (stay : (tree : Tree) (around : Loops) → Q tree around → (u : ℕ) → is_replaced new u ≡ true → 1 ≤ times u tree) where
  -- a loop that stands nowhere was not replaced
  not_replaced : (u : ℕ) → (is_replaced new u ≡ true → ⊥) → is_replaced new u ≡ false
  not_replaced u h = go (is_replaced new u) h
    where
      go : (b : Bool) → (b ≡ true → ⊥) → b ≡ false
      go true h = absurd (h refl)
      go false h = refl

  -- how often a loop stands, itself among others
  times_here : (u z n : ℕ) (walk : Option Walk) (body : Tree) → nat_eq u z ≡ true → times z (Loop u n walk body) ≡ 1 + times z body
  times_here u z n walk body e = ap (λ b. (if b then 1 else 0) + times z body) e

  -- below the place each replaced loop stands
  times_stay : (tree : Tree) (around : Loops) → HoldsAt v Q tree around → has_loop v tree ≡ true → (u : ℕ) → is_replaced new u ≡ true → 1 ≤ times u tree
  times_stay (Loop u n walk body) around h has z r =
      go (nat_eq u v) h has (λ h has. times_stay body (also around u) h has z r)
    where
      go : (b : Bool) → MatchBool b (Q (Loop u n walk body) around) (HoldsAt v Q body (also around u)) → (b || has_loop v body) ≡ true
          → (HoldsAt v Q body (also around u) → has_loop v body ≡ true → 1 ≤ times z body) → 1 ≤ times z (Loop u n walk body)
      go true h has k = stay (Loop u n walk body) around h z r
      go false h has k = let l = k h has in omega arith
  times_stay (Pre work pairs producer consumer) around h has z r =
      go (has_loop v producer) has (λ p. times_stay producer around h.0 p z r) (λ p. times_stay consumer around h.1 p z r)
    where
      go : (b : Bool) → (b || has_loop v consumer) ≡ true → (b ≡ true → 1 ≤ times z producer) → (has_loop v consumer ≡ true → 1 ≤ times z consumer) → 1 ≤ times z producer + times z consumer
      go true has p q = let l = p refl in omega arith
      go false has p q = let l = q has in omega arith
  times_stay (Leaf lhs terms guards kernel) around h has z r = absurd (cc)

  -- a tree without the loop and without the replaced ones
  site_free : (tree : Tree) (around : Loops) (name : Env) → has_loop v tree ≡ false → ((u : ℕ) → is_replaced new u ≡ true → times u tree ≡ 0) → IsSite new v (StandsWith s ds Q) tree around name
  site_free (Loop u n walk body) around name has h =
      go (nat_eq u v) has (not_replaced u (λ r. let l = h u r in omega (arith, times_here u u n walk body (eq-eqb u u refl)))) (λ has. site_free body (also around u) name has (λ z r. let l = h z r in omega arith))
    where
      go : (b : Bool) → (b || has_loop v body) ≡ false → is_replaced new u ≡ false → (has_loop v body ≡ false → IsSite new v (StandsWith s ds Q) body (also around u) name)
          → MatchBool b (StandsWith s ds Q (Loop u n walk body) around name) ((is_replaced new u ≡ false) × IsSite new v (StandsWith s ds Q) body (also around u) name)
      go true has f k = absurd (cc)
      go false has f k = (f, k has)
  site_free (Pre work pairs producer consumer) around name has h =
      go (has_loop v producer) has (λ p. site_free producer around (under pairs name) p (λ z r. let l = h z r in omega arith)) (λ p. site_free consumer around name p (λ z r. let l = h z r in omega arith))
    where
      go : (b : Bool) → (b || has_loop v consumer) ≡ false → (b ≡ false → IsSite new v (StandsWith s ds Q) producer around (under pairs name))
          → (has_loop v consumer ≡ false → IsSite new v (StandsWith s ds Q) consumer around name)
          → IsSite new v (StandsWith s ds Q) producer around (under pairs name) × IsSite new v (StandsWith s ds Q) consumer around name
      go true has p q = absurd (cc)
      go false has p q = (p refl, q has)
  site_free (Leaf lhs terms guards kernel) around name has h = tt

  -- a tree with the loop
  site_of : (tree : Tree) (around : Loops) (name : Env) → Stands s ds tree around name → HoldsAt v Q tree around → has_loop v tree ≡ true → ((u : ℕ) → is_replaced new u ≡ true → times u tree ≤ 1)
      → IsSite new v (StandsWith s ds Q) tree around name
  site_of (Loop u n walk body) around name t h has once =
      go (nat_eq u v) h has (λ h has. site_of body (also around u) name (stands_below s ds u n walk body around name t) h has (λ z r. let l = once z r in omega arith))
    where
      go : (b : Bool) → MatchBool b (Q (Loop u n walk body) around) (HoldsAt v Q body (also around u)) → (b || has_loop v body) ≡ true
          → (HoldsAt v Q body (also around u) → has_loop v body ≡ true → IsSite new v (StandsWith s ds Q) body (also around u) name)
          → MatchBool b (StandsWith s ds Q (Loop u n walk body) around name) ((is_replaced new u ≡ false) × IsSite new v (StandsWith s ds Q) body (also around u) name)
      go true h has k = (t, h)
      go false h has k = (
        not_replaced u (λ r. let l = once u r in let m = times_stay body (also around u) h has u r in omega (arith, times_here u u n walk body (eq-eqb u u refl))),
        k h has,
      )
  site_of (Pre work pairs producer consumer) around name t h has once =
      go (has_loop v producer) (has_loop v consumer) refl refl has
      (λ p. site_of producer around (under pairs name) (stands_producer s ds work pairs producer consumer around name t) h.0 p (λ z r. let l = once z r in omega arith))
      (λ p. site_of consumer around name (stands_consumer s ds work pairs producer consumer around name t) h.1 p (λ z r. let l = once z r in omega arith))
    where
      go : (p q : Bool) → has_loop v producer ≡ p → has_loop v consumer ≡ q → (p || q) ≡ true → (has_loop v producer ≡ true → IsSite new v (StandsWith s ds Q) producer around (under pairs name))
          → (has_loop v consumer ≡ true → IsSite new v (StandsWith s ds Q) consumer around name) → IsSite new v (StandsWith s ds Q) producer around (under pairs name) × IsSite new v (StandsWith s ds Q) consumer around name
      go true true e f has k l = (k e, l f)
      go true false e f has k l = (k e, site_free consumer around name f (λ z r. let a = times_stay producer around h.0 e z r in let b = once z r in omega arith))
      go false true e f has k l = (site_free producer around (under pairs name) e (λ z r. let a = times_stay consumer around h.1 f z r in let b = once z r in omega arith), l f)
      go false false e f has k l = absurd (cc)
  site_of (Leaf lhs terms guards kernel) around name t h has once = absurd (cc)

-- A change at loop v that keeps what is added where Q holds keeps what the nest adds, if the loops that it replaces stand
-- at v and nowhere else.
pub lift_at : (X : Entries → Type 0) (s : Schedule) (w : World) → StaysWithWorks w X → (ds new : List Derived) (v : ℕ) (change : ℕ → Option Walk → Tree → Tree) (Q : Tree → Loops → Type 0)
    → ((tree : Tree) (around : Loops) → Q tree around → (u : ℕ) → is_replaced new u ≡ true → 1 ≤ times u tree) → KeepsThere X w ds new v change (StandsWith s ds Q)
    → (tree : Tree) (around : Loops) (name : Env) → Stands s ds tree around name → HoldsAt v Q tree around → has_loop v tree ≡ true → ((u : ℕ) → is_replaced new u ≡ true → times u tree ≤ 1) → AreApart new around
    → (x : Entries) → X x → (env : Env) (c : List ℕ) → nest_sum w (ds ++ new) (at_loop v change tree) x name env c ≡ nest_sum w ds tree x name env c
lift_at X s w stays ds new v change Q stay keeps tree around name t h has once apart =
    lift X w stays ds new v change (StandsWith s ds Q) keeps tree around name t.follows t.loops apart (site_of s ds new v Q stay tree around name t h has once)
