-- In the tree after a cut variables still follow, are guarded, and kernels are substituted by right.
use Rattle.std.proofs.Common.{◌≡◌, ℕ, zero, suc, ◌-◌, ◌≤◌, Bool, true, false, List, [], ◌∷◌, ◌++◌, length, Option, None, refl, sym, ◌∙◌, subst, arith, append-nil}
use Rattle.std.specs.Prelude.{MatchBool, nat_eq}
use Rattle.std.specs.List.{AllByRecursion}
use Rattle.std.proofs.lemmas.Bool.{eq-eqb, ne_eqb, or_parts}
use Rattle.dt_nest.specs.declared.loops.Walk.{Walk}
use Rattle.dt_nest.specs.declared.loops.Pair.{Pair}
use Rattle.dt_nest.specs.declared.loops.Kernel.TheVariants.{Plain, Dot, Dot3}
use Rattle.dt_nest.specs.declared.derivations.Derived.{Derived}
use Rattle.dt_cuts.specs.declared.cuts.Head.{Head}
use Rattle.dt_nest.specs.Tree.{Tree, Loop, Pre, Leaf, is_kernel_leaf, read_accesses}
use Rattle.dt_nest.specs.Schedule.{Schedule}
use Rattle.dt_nest.specs.Meaning.{Env, under}
use Rattle.dt_cuts.specs.Place.{loops_around, without_loops, guarded}
use Rattle.dt_nest.specs.Questions.{is_among}
use Rattle.dt_nest.specs.Lawful.{IsNamed, AreNamed, is_replaced, AreLoops, Loops, also, AllFollow, AreGuarded, HaveGuards, IsSubstituted, HaveKernels, IsPlain, AreDistributed, IsCommunicate}
use Rattle.dt_cuts.specs.Cutting.{cut_tree, is_head, BeginsWith, HoldsAt, NameLoops}
use Rattle.dt_nest.proofs.Leads.{Stands, stands_also, stands_under}
use Rattle.dt_cuts.proofs.Staying.{Covers, covers_also, IsWell, guarded_kernel, keeps_on, walk_on, accesses_on, vars_on, guarded_on, follows_stay, guards_stay, kernels_stay}
use Rattle.dt_cuts.proofs.CutCounts.{holds_map, BeginAt, in_place, loop_after}
use Rattle.dt_cuts.proofs.CutPlace.{Exchanges, loops_of, below_gone, guards_gone, kernels_gone, kernel_gone, kernel_heads, not_substituted, follows_heads, guards_heads, kernels_heads, loops_heads, stands_place, covers_place, apart_place}

-- Kernels and plain loops ---------------------------------------------------------------------------------------------

module _ (h : Head) (hs heads : List Head) (gs : List ℕ) where
  -- a leaf with a kernel stays one, and nothing else becomes one
  pub kernel_cut : (tree : Tree) (a : Loops) → BeginAt h hs tree a → is_kernel_leaf (cut_tree (h ∷ hs) heads gs tree) ≡ is_kernel_leaf tree
  kernel_cut (Loop u n walk body) a at = go (nat_eq u h.var) at
    where
      go : (t : Bool) → MatchBool t (BeginsWith (h ∷ hs) (Loop u n walk body)) (BeginAt h hs body (also a u))
          → is_kernel_leaf (loop_after h hs heads gs t u n walk body) ≡ false
      go true at = kernel_heads heads (guarded gs (without_loops (length hs) body)) (guarded_kernel gs (without_loops (length hs) body) ∙ kernel_gone hs body at.3)
      go false at = refl
  kernel_cut (Pre work pairs p q) a at = refl
  kernel_cut (Leaf lhs terms guards kernel) a at = refl

  -- distributed loops stay
  pub distributed_cut : (k : ℕ) (tree : Tree) (a : Loops) → BeginAt h hs tree a → is_among k h.var tree ≡ false → AreDistributed k tree → AreDistributed k (cut_tree (h ∷ hs) heads gs tree)
  distributed_cut zero tree a at among d = tt
  distributed_cut (suc k) (Loop u n walk body) a at among d =
      let o = or_parts (nat_eq u h.var) (is_among k h.var body) among in
      go (nat_eq u h.var) o.0 at (λ at. distributed_cut k body (also a u) at o.1 d.1)
    where
      go : (t : Bool) → t ≡ false → MatchBool t (BeginsWith (h ∷ hs) (Loop u n walk body)) (BeginAt h hs body (also a u))
          → (BeginAt h hs body (also a u) → AreDistributed k (cut_tree (h ∷ hs) heads gs body))
          → AreDistributed (suc k) (loop_after h hs heads gs t u n walk body)
      go true e at r = absurd (cc)
      go false e at r = ((d.0.0, kernel_cut body (also a u) at ∙ d.0.1), r at)
  distributed_cut (suc k) (Pre work pairs p q) a at among d = absurd d
  distributed_cut (suc k) (Leaf lhs terms guards kernel) a at among d = absurd d

-- a communicate loop past the distributed ones, below loops that go
communicate_gone : (m : ℕ) (hs : List Head) (tree : Tree) → BeginsWith hs tree → is_head hs m ≡ false → IsCommunicate 0 m tree → IsCommunicate 0 m (without_loops (length hs) tree)
communicate_gone m [] tree b i c = c
communicate_gone m (h ∷ hs) (Loop v n walk body) b i c =
    let o = or_parts (nat_eq m h.var) (is_head hs m) i in
    communicate_gone m hs body b.3 o.1 (go (nat_eq v m) (ne_eqb v m (λ e. let t : nat_eq m h.var ≡ true = eq-eqb m h.var (sym e ∙ b.0) in let f = o.0 in absurd (cc))) c)
  where
    go : (t : Bool) → t ≡ false → MatchBool t ((0 ≤ 1) × IsPlain walk body) (IsCommunicate 0 m body) → IsCommunicate 0 m body
    go true e c = absurd (cc)
    go false e c = c
communicate_gone m (h ∷ hs) (Pre work pairs p q) b i c = absurd b
communicate_gone m (h ∷ hs) (Leaf lhs terms guards kernel) b i c = absurd b

communicate_guarded : (gs : List ℕ) (k m : ℕ) (tree : Tree) → IsCommunicate k m tree → IsCommunicate k m (guarded gs tree)
communicate_guarded gs k m (Loop v n walk body) c = go (nat_eq v m) c (communicate_guarded gs (k - 1) m body)
  where
    go : (t : Bool) → MatchBool t ((k ≤ 1) × IsPlain walk body) (IsCommunicate (k - 1) m body) → (IsCommunicate (k - 1) m body → IsCommunicate (k - 1) m (guarded gs body)) → MatchBool t ((k ≤ 1) × IsPlain walk (guarded gs body)) (IsCommunicate (k - 1) m (guarded gs body))
    go true c r = (c.0, (c.1.0, guarded_kernel gs body ∙ c.1.1))
    go false c r = r c
communicate_guarded gs k m (Pre work pairs p q) c = absurd c
communicate_guarded gs k m (Leaf lhs terms guards kernel) c = absurd c

communicate_heads : (m : ℕ) (hs : List Head) (tree : Tree) → is_kernel_leaf tree ≡ false → IsCommunicate 0 m tree → IsCommunicate 0 m (loops_around hs tree)
communicate_heads m [] tree plain c = c
communicate_heads m (h ∷ hs) tree plain c = go (nat_eq h.var m) (communicate_heads m hs tree plain c)
  where
    go : (t : Bool) → IsCommunicate 0 m (loops_around hs tree) → MatchBool t ((0 ≤ 1) × IsPlain None (loops_around hs tree)) (IsCommunicate 0 m (loops_around hs tree))
    go true r = (omega arith, (refl, kernel_heads hs tree plain))
    go false r = r

module _ (h : Head) (hs heads : List Head) (gs : List ℕ) (m : ℕ) (other : is_head (h ∷ hs) m ≡ false) where
  among_less : (k u n : ℕ) (walk : Option Walk) (body : Tree) → is_among k h.var (Loop u n walk body) ≡ false → is_among (k - 1) h.var body ≡ false
  among_less zero u n walk body e = refl
  among_less (suc k) u n walk body e = let less : k ≡ suc k - 1 = omega arith in subst (λ (z : ℕ). is_among z h.var body ≡ false) less (or_parts (nat_eq u h.var) (is_among k h.var body) e).1

  no_more : (k u n : ℕ) (walk : Option Walk) (body : Tree) → nat_eq u h.var ≡ true → is_among k h.var (Loop u n walk body) ≡ false → k ≡ 0
  no_more zero u n walk body e f = refl
  no_more (suc k) u n walk body e f = let o = or_parts (nat_eq u h.var) (is_among k h.var body) f in let g = o.0 in absurd (cc)

  -- a communicate loop that doesn't go stays one
  pub communicate_cut : (k : ℕ) (tree : Tree) (a : Loops) → BeginAt h hs tree a → is_among k h.var tree ≡ false → IsCommunicate k m tree → IsCommunicate k m (cut_tree (h ∷ hs) heads gs tree)
  communicate_cut k (Loop u n walk body) a at among c =
      go (nat_eq u h.var) (λ e. no_more k u n walk body e among) at (λ at c. communicate_cut (k - 1) body (also a u) at (among_less k u n walk body among) c)
    where
      here : (t : Bool) → BeginAt h hs body (also a u) → MatchBool t ((k ≤ 1) × IsPlain walk body) (IsCommunicate (k - 1) m body)
          → (IsCommunicate (k - 1) m body → IsCommunicate (k - 1) m (cut_tree (h ∷ hs) heads gs body)) → MatchBool t ((k ≤ 1) × IsPlain walk (cut_tree (h ∷ hs) heads gs body)) (IsCommunicate (k - 1) m (cut_tree (h ∷ hs) heads gs body))
      here true at c r = (c.0, (c.1.0, kernel_cut h hs heads gs body (also a u) at ∙ c.1.1))
      here false at c r = r c

      go : (t : Bool) → (t ≡ true → k ≡ 0) → MatchBool t (BeginsWith (h ∷ hs) (Loop u n walk body)) (BeginAt h hs body (also a u))
          → (BeginAt h hs body (also a u) → IsCommunicate (k - 1) m body → IsCommunicate (k - 1) m (cut_tree (h ∷ hs) heads gs body))
          → IsCommunicate k m (loop_after h hs heads gs t u n walk body)
      go true e at r =
          let z = e refl in
          subst (λ (z : ℕ). IsCommunicate z m (in_place hs heads gs body)) (sym z)
          (communicate_heads m heads (guarded gs (without_loops (length hs) body)) (guarded_kernel gs (without_loops (length hs) body) ∙ kernel_gone hs body at.3)
          (communicate_guarded gs 0 m (without_loops (length hs) body) (communicate_gone m (h ∷ hs) (Loop u n walk body) at other (subst (λ (z : ℕ). IsCommunicate z m (Loop u n walk body)) z c))))
      go false e at r = here (nat_eq u m) at c (r at)
  communicate_cut k (Pre work pairs p q) a at among c = absurd c
  communicate_cut k (Leaf lhs terms guards kernel) a at among c = absurd c

-- What follows from the loops around ----------------------------------------------------------------------------------

-- The parts of lawfulness that speak of this tree, below loops with these names; the loops that go stand in it, and none of
-- the loops after the cut is replaced.
pub record IsFit (s : Schedule) (new : List Derived) (h : Head) (hs heads : List Head) (gs : List ℕ) (tree : Tree) (a : Loops) (name : Env) : Type 0 where
  pub named : IsNamed s tree
  pub loops : AreLoops s.derived tree
  pub kept : AreLoops new (cut_tree (h ∷ hs) heads gs tree)
  pub follows : AllFollow s.derived tree a name
  pub place : HoldsAt h.var (λ t a. BeginsWith (h ∷ hs) t × NameLoops heads new a) tree a

-- where the loops go, the tree below them
pub record IsPlaced (s : Schedule) (new : List Derived) (h : Head) (hs heads : List Head) (gs : List ℕ) (tree : Tree) (a : Loops) (name : Env) : Type 0 where
  pub well : IsWell s new tree (loops_of (h ∷ hs) a) name
  pub stands : Stands s new (loops_of (h ∷ hs) a) (loops_of heads a) name
  pub covers : Covers new gs (loops_of (h ∷ hs) a)
  pub apart : AllByRecursion (λ (x : Head). (a x.var ≡ false) × (name x.var ≡ x.var)) heads
  pub plain : is_kernel_leaf (guarded gs tree) ≡ false

module _ (s : Schedule) (new : List Derived) (derived : AreNamed s s.derived) (h : Head) (hs heads : List Head) (gs : List ℕ) (x : Exchanges s new (h ∷ hs) heads gs) where
  placed : (u n : ℕ) (walk : Option Walk) (body : Tree) (a : Loops) (name : Env) → Stands s new a a name → IsNamed s (Loop u n walk body) → AreLoops s.derived (Loop u n walk body) → AllFollow s.derived (Loop u n walk body) a name
      → BeginsWith (h ∷ hs) (Loop u n walk body) → NameLoops heads new a → AreLoops new (in_place hs heads gs body) → IsPlaced s new h hs heads gs (without_loops (length hs) body) a name
  placed u n walk body a name at m l f b names kept =
      let r = below_gone s name (h ∷ hs) (Loop u n walk body) a b m l f in record {
        well = record { named = r.1; loops = r.2; kept = loops_heads new gs heads (without_loops (length hs) body) kept; follows = r.3 };
        stands = stands_place s new (h ∷ hs) heads gs x a name at r.0 names;
        covers = covers_place s new (h ∷ hs) heads gs x a name at r.0 names;
        apart = apart_place s new (h ∷ hs) heads gs x a name at r.0 names;
        plain = guarded_kernel gs (without_loops (length hs) body) ∙ kernel_gone hs body b.3;
      }

  -- a loop begins those that go, or is another
  loop_cases : (R : Type 0) (u n : ℕ) (walk : Option Walk) (body : Tree) (a : Loops) (name : Env) → Stands s new a a name → IsFit s new h hs heads gs (Loop u n walk body) a name
      → (nat_eq u h.var ≡ true → BeginsWith (h ∷ hs) (Loop u n walk body) → IsPlaced s new h hs heads gs (without_loops (length hs) body) a name → R)
      → (nat_eq u h.var ≡ false → is_replaced new u ≡ false → Stands s new (also a u) (also a u) name → IsFit s new h hs heads gs body (also a u) name → R) → R
  loop_cases R u n walk body a name at w f g = go (nat_eq u h.var) f g w.kept w.place
    where
      go : (t : Bool) → (t ≡ true → BeginsWith (h ∷ hs) (Loop u n walk body) → IsPlaced s new h hs heads gs (without_loops (length hs) body) a name → R)
          → (t ≡ false → is_replaced new u ≡ false → Stands s new (also a u) (also a u) name → IsFit s new h hs heads gs body (also a u) name → R)
          → AreLoops new (loop_after h hs heads gs t u n walk body)
          → MatchBool t (BeginsWith (h ∷ hs) (Loop u n walk body) × NameLoops heads new a) (HoldsAt h.var (λ t a. BeginsWith (h ∷ hs) t × NameLoops heads new a) body (also a u)) → R
      go true f g k p = f refl p.0 (placed u n walk body a name at w.named w.loops w.follows p.0 p.1 k)
      go false f g k p = g refl k.0 (stands_also s new a a name u w.named.0 w.follows.1 w.loops.0 k.0 at) (record { named = w.named.3; loops = w.loops.1; kept = k.1; follows = w.follows.3; place = p })

  producer_fit : (work : ℕ) (pairs : List Pair) (p q : Tree) (a : Loops) (name : Env) → Stands s new a a name → IsFit s new h hs heads gs (Pre work pairs p q) a name → Stands s new a a (under pairs name) × IsFit s new h hs heads gs p a (under pairs name)
  producer_fit work pairs p q a name at w = (
    stands_under s new a a name pairs w.named.1 w.follows.0 at,
    record { named = w.named.2; loops = w.loops.0; kept = w.kept.0; follows = w.follows.1; place = w.place.0 },
  )

  consumer_fit : (work : ℕ) (pairs : List Pair) (p q : Tree) (a : Loops) (name : Env) → IsFit s new h hs heads gs (Pre work pairs p q) a name → IsFit s new h hs heads gs q a name
  consumer_fit work pairs p q a name w = record { named = w.named.3; loops = w.loops.1; kept = w.kept.1; follows = w.follows.2; place = w.place.1 }

  pub follows_cut : (tree : Tree) (a : Loops) (name : Env) → Stands s new a a name → IsFit s new h hs heads gs tree a name → AllFollow (s.derived ++ new) (cut_tree (h ∷ hs) heads gs tree) a name
  follows_cut (Loop u n walk body) a name at w =
      loop_cases (AllFollow (s.derived ++ new) (cut_tree (h ∷ hs) heads gs (Loop u n walk body)) a name) u n walk body a name at w
      (λ e b p. subst (λ (t : Bool). AllFollow (s.derived ++ new) (loop_after h hs heads gs t u n walk body) a name) (sym e)
      (follows_heads (s.derived ++ new) name (guarded gs (without_loops (length hs) body)) heads a p.apart x.differ
      (follows_stay s new derived gs (without_loops (length hs) body) (loops_of (h ∷ hs) a) (loops_of heads a) name p.stands p.well p.covers.around)))
      (λ e r k v. subst (λ (t : Bool). AllFollow (s.derived ++ new) (loop_after h hs heads gs t u n walk body) a name) (sym e)
      (w.follows.0, w.follows.1, walk_on s new derived a a name at walk u w.follows.2, follows_cut body (also a u) name k v))
  follows_cut (Pre work pairs p q) a name at w =
      let k = producer_fit work pairs p q a name at w in (
        keeps_on s new derived a a name at pairs w.named.1 w.follows.0,
        follows_cut p a (under pairs name) k.0 k.1,
        follows_cut q a name at (consumer_fit work pairs p q a name w),
      )
  follows_cut (Leaf lhs terms guards kernel) a name at w = (accesses_on s new derived a a name at (lhs ∷ read_accesses terms) w.follows.0, vars_on s new derived a a name at guards w.follows.1)

  pub guards_cut : (tree : Tree) (a : Loops) (name : Env) → Stands s new a a name → IsFit s new h hs heads gs tree a name → Covers new [] a → HaveGuards s.derived tree a name → HaveGuards (s.derived ++ new) (cut_tree (h ∷ hs) heads gs tree) a name
  guards_cut (Loop u n walk body) a name at w c g =
      loop_cases (HaveGuards (s.derived ++ new) (cut_tree (h ∷ hs) heads gs (Loop u n walk body)) a name) u n walk body a name at w
      (λ e b p. subst (λ (t : Bool). HaveGuards (s.derived ++ new) (loop_after h hs heads gs t u n walk body) a name) (sym e)
      (guards_heads (s.derived ++ new) name (guarded gs (without_loops (length hs) body)) heads a
      (guards_stay s new derived gs (without_loops (length hs) body) (loops_of (h ∷ hs) a) (loops_of heads a) name p.stands p.well p.covers (guards_gone s name (h ∷ hs) (Loop u n walk body) a b g))))
      (λ e r k v. subst (λ (t : Bool). HaveGuards (s.derived ++ new) (loop_after h hs heads gs t u n walk body) a name) (sym e)
      (guards_cut body (also a u) name k v (covers_also new [] a u r c) g))
  guards_cut (Pre work pairs p q) a name at w c g =
      let k = producer_fit work pairs p q a name at w in (guards_cut p a (under pairs name) k.0 k.1 c g.0, guards_cut q a name at (consumer_fit work pairs p q a name w) c g.1)
  guards_cut (Leaf lhs terms guards kernel) a name at w c g = subst (λ (l : List ℕ). AreGuarded (s.derived ++ new) l a name) (append-nil guards) (guarded_on s new derived a a name at guards [] c g)

  substituted_cut : (tree : Tree) (a b : Loops) (name : Env) → Stands s new a a name → BeginAt h hs tree b → IsSubstituted s.derived tree a name → IsSubstituted (s.derived ++ new) (cut_tree (h ∷ hs) heads gs tree) a name
  substituted_cut (Loop u n walk body) a b name at place i = not_substituted (s.derived ++ new) (cut_tree (h ∷ hs) heads gs (Loop u n walk body)) a name (kernel_cut h hs heads gs (Loop u n walk body) b place)
  substituted_cut (Pre work pairs p q) a b name at place i = tt
  substituted_cut (Leaf lhs terms guards Plain) a b name at place i = tt
  substituted_cut (Leaf lhs terms guards Dot) a b name at place i = (i.0, vars_on s new derived a a name at lhs.vars i.1)
  substituted_cut (Leaf lhs terms guards Dot3) a b name at place i = (i.0, vars_on s new derived a a name at lhs.vars i.1)

  begins : (tree : Tree) (a : Loops) → HoldsAt h.var (λ t a. BeginsWith (h ∷ hs) t × NameLoops heads new a) tree a → BeginAt h hs tree a
  begins tree a p = holds_map h.var (λ t a. BeginsWith (h ∷ hs) t × NameLoops heads new a) (λ t a. BeginsWith (h ∷ hs) t) (λ t a q. q.0) tree a p

  pub kernels_cut : (tree : Tree) (a : Loops) (name : Env) → Stands s new a a name → IsFit s new h hs heads gs tree a name → HaveKernels s.derived tree a name → HaveKernels (s.derived ++ new) (cut_tree (h ∷ hs) heads gs tree) a name
  kernels_cut (Loop u n walk body) a name at w i =
      loop_cases (HaveKernels (s.derived ++ new) (cut_tree (h ∷ hs) heads gs (Loop u n walk body)) a name) u n walk body a name at w
      (λ e b p. subst (λ (t : Bool). HaveKernels (s.derived ++ new) (loop_after h hs heads gs t u n walk body) a name) (sym e)
      (kernels_heads (s.derived ++ new) name (guarded gs (without_loops (length hs) body)) heads a p.plain
      (kernels_stay s new derived gs (without_loops (length hs) body) (loops_of (h ∷ hs) a) (loops_of heads a) name p.stands p.well (kernels_gone s name (h ∷ hs) (Loop u n walk body) a b i))))
      (λ e r k v. subst (λ (t : Bool). HaveKernels (s.derived ++ new) (loop_after h hs heads gs t u n walk body) a name) (sym e)
      (substituted_cut body a (also a u) name at (begins body (also a u) v.place) i.0, kernels_cut body (also a u) name k v i.1))
  kernels_cut (Pre work pairs p q) a name at w i =
      let k = producer_fit work pairs p q a name at w in (
        kernel_cut h hs heads gs p a (begins p a w.place.0) ∙ i.0,
        kernel_cut h hs heads gs q a (begins q a w.place.1) ∙ i.1,
        kernels_cut p a (under pairs name) k.0 k.1 i.2,
        kernels_cut q a name at (consumer_fit work pairs p q a name w) i.3,
      )
  kernels_cut (Leaf lhs terms guards kernel) a name at w i = tt
