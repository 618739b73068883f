-- A tree that stays, but for more guards at its leaves, is as lawful under more derivations.
use Rattle.std.proofs.Common.{◌≡◌, ℕ, ◌<◌, Bool, true, false, ◌&&◌, List, [], ◌∷◌, ◌++◌, length, Option, Some, None, refl, sym, ap, ◌∙◌, subst}
use Rattle.std.specs.Prelude.{not, nat_eq, nat_le}
use Rattle.std.specs.List.{AllByRecursion, list_any}
use Rattle.std.proofs.lemmas.Bool.{eq-eqb, or_left, or_right}
use Rattle.std.proofs.lemmas.List.Folds.{list_any-append}
use Rattle.dt_model.specs.declared.stmt.Access.{Access}
use Rattle.dt_nest.specs.declared.loops.Walk.{Walk}
use Rattle.dt_nest.specs.declared.loops.Pair.{Pair}
use Rattle.dt_nest.specs.declared.loops.Kernel.TheVariants.{Plain, Dot, Dot3}
use Rattle.dt_nest.specs.declared.derivations.Derived.{Derived}
use Rattle.dt_nest.proofs.Each.{all_map, all_append}
use Rattle.dt_nest.specs.Tree.{Tree, Loop, Pre, Leaf, is_kernel_leaf, read_accesses}
use Rattle.dt_nest.specs.Schedule.{Schedule}
use Rattle.dt_nest.specs.Meaning.{Env, renamed, under}
use Rattle.dt_cuts.specs.Place.{guarded}
use Rattle.dt_nest.specs.Lawful.{ArePairs, IsNamed, AreNamed, sources, is_replaced, AreLoops, Loops, also, Follows, take_before, WalkFollows, AllFollow, is_split, AreGuarded, HaveGuards, IsSubstituted, HaveKernels}
use Rattle.dt_nest.proofs.Truth.{below_or_past, all_and, any_none, any_where}
use Rattle.dt_nest.proofs.Leads.{also_either, past_replaced, renamed_past, Stands, stands_also, stands_under, follows_on, replaced_around, follows_back, named_sources}
use Rattle.dt_nest.proofs.Agree.{also_more, follows_loop}

-- the guards that come speak of loops around, those of the new splits among them
pub record Covers (new : List Derived) (gs : List ℕ) (a : Loops) : Type 0 where
  pub around : AllByRecursion (λ g. a g ≡ true) gs
  pub splits : AllByRecursion (λ d. is_split d.how ≡ true → a d.var ≡ true → list_any (λ g. nat_eq g d.var) gs ≡ true) new

-- no guard comes where none of what is replaced is around
pub covers_none : (new : List Derived) → Covers new [] (λ u. false)
covers_none new = record { around = tt; splits = nothing new }
  where
    nothing : (ds : List Derived) → AllByRecursion (λ d. is_split d.how ≡ true → false ≡ true → false ≡ true) ds
    nothing [] = tt
    nothing (d ∷ ds) = ((λ t h. h), nothing ds)

-- below one more loop that isn't replaced
pub covers_also : (new : List Derived) (gs : List ℕ) (a : Loops) (v : ℕ) → is_replaced new v ≡ false → Covers new gs a → Covers new gs (also a v)
covers_also new gs a v whole c = record {
  around = all_map (λ g. a g ≡ true) (λ g. also a v g ≡ true) (λ g h. also_more a v g h) gs c.around;
  splits =
      all_map (λ (d : Derived). (nat_eq v d.var ≡ false) × (is_split d.how ≡ true → a d.var ≡ true → list_any (λ g. nat_eq g d.var) gs ≡ true))
      (λ d. is_split d.how ≡ true → also a v d.var ≡ true → list_any (λ g. nat_eq g d.var) gs ≡ true)
      (λ d p t h. also_either (list_any (λ g. nat_eq g d.var) gs ≡ true) a v d.var h
      (λ e. let q : nat_eq v d.var ≡ true = eq-eqb v d.var (sym e) in let f = p.0 in absurd (cc)) (p.1 t))
      new (all_and (λ (d : Derived). nat_eq v d.var ≡ false) (λ d. is_split d.how ≡ true → a d.var ≡ true → list_any (λ g. nat_eq g d.var) gs ≡ true) new (any_none (λ (d : Derived). nat_eq v d.var) new whole) c.splits);
}

-- The parts of lawfulness that speak of this tree, below loops with these names; none of its loops is replaced.
pub record IsWell (s : Schedule) (new : List Derived) (tree : Tree) (a : Loops) (name : Env) : Type 0 where
  pub named : IsNamed s tree
  pub loops : AreLoops s.derived tree
  pub kept : AreLoops new tree
  pub follows : AllFollow s.derived tree a name

-- a leaf keeps its kernel
pub guarded_kernel : (gs : List ℕ) (tree : Tree) → is_kernel_leaf (guarded gs tree) ≡ is_kernel_leaf tree
guarded_kernel gs (Loop v n walk body) = refl
guarded_kernel gs (Pre work pairs p q) = refl
guarded_kernel gs (Leaf lhs terms guards kernel) = refl

module _ (s : Schedule) (new : List Derived) (derived : AreNamed s s.derived) where
  -- one node further down
  module _ (a b : Loops) (name : Env) (at : Stands s new a b name) where
    pub below_loop : (v n : ℕ) (walk : Option Walk) (body : Tree) → IsWell s new (Loop v n walk body) a name → Stands s new (also a v) (also b v) name × IsWell s new body (also a v) name
    below_loop v n walk body w = (
      stands_also s new a b name v w.named.0 w.follows.1 w.loops.0 w.kept.0 at,
      record { named = w.named.3; loops = w.loops.1; kept = w.kept.1; follows = w.follows.3 },
    )

    pub below_producer : (work : ℕ) (pairs : List Pair) (p q : Tree) → IsWell s new (Pre work pairs p q) a name → Stands s new a b (under pairs name) × IsWell s new p a (under pairs name)
    below_producer work pairs p q w = (
      stands_under s new a b name pairs w.named.1 w.follows.0 at,
      record { named = w.named.2; loops = w.loops.0; kept = w.kept.0; follows = w.follows.1 },
    )

    pub below_consumer : (work : ℕ) (pairs : List Pair) (p q : Tree) → IsWell s new (Pre work pairs p q) a name → IsWell s new q a name
    below_consumer work pairs p q w = record { named = w.named.3; loops = w.loops.1; kept = w.kept.1; follows = w.follows.2 }

    -- a loop that wasn't around isn't
    pub stays_apart : (v : ℕ) → v < length s.names → a v ≡ false → b v ≡ false
    stays_apart v l h = go (b v) (at.leads.back v l)
      where
        go : (t : Bool) → (t ≡ true → a v ≡ true) → t ≡ false
        go true r = let k = r refl in absurd (cc)
        go false r = refl

    -- variables that follow
    pub vars_on : (us : List ℕ) → AllByRecursion (λ u. Follows s.derived a name (name u)) us → AllByRecursion (λ u. Follows (s.derived ++ new) b name (name u)) us
    vars_on us h = all_map (λ u. Follows s.derived a name (name u)) (λ u. Follows (s.derived ++ new) b name (name u)) (λ u f. follows_on s new a b name at s.derived (name u) f) us h

    pub accesses_on : (xs : List Access) → AllByRecursion (λ x. AllByRecursion (λ u. Follows s.derived a name (name u)) x.vars) xs → AllByRecursion (λ x. AllByRecursion (λ u. Follows (s.derived ++ new) b name (name u)) x.vars) xs
    accesses_on xs h = all_map (λ (x : Access). AllByRecursion (λ u. Follows s.derived a name (name u)) x.vars) (λ x. AllByRecursion (λ u. Follows (s.derived ++ new) b name (name u)) x.vars) (λ x f. vars_on x.vars f) xs h

    pub walk_on : (walk : Option Walk) (v : ℕ) → WalkFollows s.derived walk v a name → WalkFollows (s.derived ++ new) walk v b name
    walk_on None v h = tt
    walk_on (Some k) v h = (h.0, vars_on (take_before (λ u. nat_eq (name u) v) k.vars) h.1)

    pub substituted_on : (gs : List ℕ) (tree : Tree) → IsSubstituted s.derived tree a name → IsSubstituted (s.derived ++ new) (guarded gs tree) b name
    substituted_on gs (Loop v n walk body) h = tt
    substituted_on gs (Pre work pairs p q) h = tt
    substituted_on gs (Leaf lhs terms guards Plain) h = tt
    substituted_on gs (Leaf lhs terms guards Dot) h = (h.0, vars_on lhs.vars h.1)
    substituted_on gs (Leaf lhs terms guards Dot3) h = (h.0, vars_on lhs.vars h.1)

    -- what has no new name in a producer
    pub keeps_on : (pairs : List Pair) → ArePairs s pairs → ((u : ℕ) → Follows s.derived a name u → renamed pairs u ≡ u) → (u : ℕ) → Follows (s.derived ++ new) b name u → renamed pairs u ≡ u
    keeps_on pairs p h u f =
        below_or_past (renamed pairs u ≡ u) u (length s.names) (λ l. h u (follows_back s new a b name at s.derived (named_sources s s.derived derived) u l f)) (renamed_past s pairs p u)

    -- the guards that come follow
    pub come_on : (gs : List ℕ) → AllByRecursion (λ g. a g ≡ true) gs → AllByRecursion (λ g. Follows (s.derived ++ new) b name (name g)) gs
    come_on gs h =
        vars_on gs (all_map (λ g. a g ≡ true) (λ g. Follows s.derived a name (name g))
        (λ g k. let p = at.plain g k in subst (λ (z : ℕ). Follows s.derived a name z) (sym p.1) (follows_loop s.derived a name g p.2 k)) gs h)

    old_guarded : (guards gs : List ℕ) (ds : List Derived) → AllByRecursion (λ d. AllByRecursion (λ u. u < length s.names) (sources d.how)) ds
        → AreGuarded new (guards ++ gs) b name → AreGuarded ds guards a name → AreGuarded (ds ++ new) (guards ++ gs) b name
    old_guarded guards gs [] below fresh h = fresh
    old_guarded guards gs (d ∷ ds) below fresh h = (
      (λ t f. list_any-append (λ g. nat_eq (name g) d.var) guards gs
          ∙ or_left (list_any (λ g. nat_eq (name g) d.var) guards) (list_any (λ g. nat_eq (name g) d.var) gs)
          (h.0 t (all_map (λ u. (u < length s.names) × Follows (ds ++ new) b name (name u)) (λ u. Follows ds a name (name u)) (λ u q. follows_back s new a b name at ds below.1 (name u) (at.below u q.0) q.1)
          (sources d.how) (all_and (λ u. u < length s.names) (λ u. Follows (ds ++ new) b name (name u)) (sources d.how) below.0 f)))),
      old_guarded guards gs ds below.1 fresh h.1,
    )

    new_guarded : (guards gs : List ℕ) → AllByRecursion (λ g. a g ≡ true) gs → (ds : List Derived) → AllByRecursion (λ d. d.var < length s.names) ds
        → AllByRecursion (λ d. a d.var ≡ false → list_any (λ u. nat_le (length s.names) u && not (b u)) (sources d.how) ≡ true) ds
        → AllByRecursion (λ d. is_split d.how ≡ true → a d.var ≡ true → list_any (λ g. nat_eq g d.var) gs ≡ true) ds → AreGuarded ds (guards ++ gs) b name
    new_guarded guards gs come [] old missing h = tt
    new_guarded guards gs come (d ∷ ds) old missing h = (
      (λ t f. list_any-append (λ g. nat_eq (name g) d.var) guards gs
          ∙ or_right (list_any (λ g. nat_eq (name g) d.var) guards) (list_any (λ g. nat_eq (name g) d.var) gs)
          (any_where (λ g. nat_eq g d.var) (λ g. nat_eq (name g) d.var) (λ g. a g ≡ true) (λ g e k. ap (λ (z : ℕ). nat_eq z d.var) (at.plain g k).1 ∙ e) gs
          (h.0 t (replaced_around s new a b name at ds (past_replaced (length s.names) ds old.1) d missing.0 f)) come)),
      new_guarded guards gs come ds old.1 missing.1 h.1,
    )

    pub guarded_on : (guards gs : List ℕ) → Covers new gs a → AreGuarded s.derived guards a name → AreGuarded (s.derived ++ new) (guards ++ gs) b name
    guarded_on guards gs c h = old_guarded guards gs s.derived (named_sources s s.derived derived) (new_guarded guards gs c.around new at.leads.old at.leads.missing c.splits) h

  pub follows_stay : (gs : List ℕ) (tree : Tree) (a b : Loops) (name : Env) → Stands s new a b name → IsWell s new tree a name → AllByRecursion (λ g. a g ≡ true) gs → AllFollow (s.derived ++ new) (guarded gs tree) b name
  follows_stay gs (Loop v n walk body) a b name at w c =
      let k = below_loop a b name at v n walk body w in (
        stays_apart a b name at v w.named.0 w.follows.0,
        w.follows.1,
        walk_on a b name at walk v w.follows.2,
        follows_stay gs body (also a v) (also b v) name k.0 k.1 (all_map (λ g. a g ≡ true) (λ g. also a v g ≡ true) (λ g h. also_more a v g h) gs c),
      )
  follows_stay gs (Pre work pairs p q) a b name at w c =
      let k = below_producer a b name at work pairs p q w in (
        keeps_on a b name at pairs w.named.1 w.follows.0,
        follows_stay gs p a b (under pairs name) k.0 k.1 c,
        follows_stay gs q a b name at (below_consumer a b name at work pairs p q w) c,
      )
  follows_stay gs (Leaf lhs terms guards kernel) a b name at w c = (
    accesses_on a b name at (lhs ∷ read_accesses terms) w.follows.0,
    all_append (λ g. Follows (s.derived ++ new) b name (name g)) guards gs (vars_on a b name at guards w.follows.1) (come_on a b name at gs c),
  )

  pub guards_stay : (gs : List ℕ) (tree : Tree) (a b : Loops) (name : Env) → Stands s new a b name → IsWell s new tree a name → Covers new gs a → HaveGuards s.derived tree a name → HaveGuards (s.derived ++ new) (guarded gs tree) b name
  guards_stay gs (Loop v n walk body) a b name at w c h =
      let k = below_loop a b name at v n walk body w in guards_stay gs body (also a v) (also b v) name k.0 k.1 (covers_also new gs a v w.kept.0 c) h
  guards_stay gs (Pre work pairs p q) a b name at w c h =
      let k = below_producer a b name at work pairs p q w in (
        guards_stay gs p a b (under pairs name) k.0 k.1 c h.0,
        guards_stay gs q a b name at (below_consumer a b name at work pairs p q w) c h.1,
      )
  guards_stay gs (Leaf lhs terms guards kernel) a b name at w c h = guarded_on a b name at guards gs c h

  pub kernels_stay : (gs : List ℕ) (tree : Tree) (a b : Loops) (name : Env) → Stands s new a b name → IsWell s new tree a name → HaveKernels s.derived tree a name → HaveKernels (s.derived ++ new) (guarded gs tree) b name
  kernels_stay gs (Loop v n walk body) a b name at w h =
      let k = below_loop a b name at v n walk body w in (
        substituted_on a b name at gs body h.0,
        kernels_stay gs body (also a v) (also b v) name k.0 k.1 h.1,
      )
  kernels_stay gs (Pre work pairs p q) a b name at w h =
      let k = below_producer a b name at work pairs p q w in (
        guarded_kernel gs p ∙ h.0,
        guarded_kernel gs q ∙ h.1,
        kernels_stay gs p a b (under pairs name) k.0 k.1 h.2,
        kernels_stay gs q a b name at (below_consumer a b name at work pairs p q w) h.3,
      )
  kernels_stay gs (Leaf lhs terms guards kernel) a b name at w h = tt
