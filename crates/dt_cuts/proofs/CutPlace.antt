-- Where loops go and others come in their place, variables still follow, are guarded, and kernels are substituted by right.
use Rattle.std.proofs.Common.{◌≡◌, ℕ, ◌<◌, ◌≤◌, Bool, true, false, ◌||◌, ◌&&◌, List, [], ◌∷◌, length, map, refl, sym, ap, ◌∙◌, subst, arith}
use Rattle.std.specs.Prelude.{not, nat_eq, nat_le}
use Rattle.std.specs.List.{AllByRecursion, IsDistinct, list_any}
use Rattle.std.proofs.lemmas.Bool.{eq-eqb, ne_eqb, leb-true, or_left, or_right, or_parts, or_from}
use Rattle.dt_nest.specs.declared.loops.Kernel.TheVariants.{Plain, Dot, Dot3}
use Rattle.dt_nest.specs.declared.derivations.Derived.{Derived}
use Rattle.dt_cuts.specs.declared.cuts.Head.{Head}
use Rattle.dt_nest.proofs.Each.{all_map}
use Rattle.dt_nest.specs.Tree.{Tree, Loop, Pre, Leaf, is_kernel_leaf}
use Rattle.dt_nest.specs.Schedule.{Schedule}
use Rattle.dt_nest.specs.Meaning.{Env}
use Rattle.dt_cuts.specs.Place.{loops_around, without_loops, guarded}
use Rattle.dt_nest.specs.Lawful.{IsNamed, sources, is_replaced, AreLoops, Loops, also, AllFollow, is_split, HaveGuards, IsSubstituted, HaveKernels}
use Rattle.dt_cuts.specs.Cutting.{is_head, BeginsWith, NameLoops}
use Rattle.dt_nest.proofs.Truth.{or_either, all_and, none_any}
use Rattle.dt_nest.proofs.Leads.{Leads, Stands}
use Rattle.dt_cuts.proofs.Staying.{Covers}
use Rattle.dt_cuts.proofs.CutFacts.{head_fact}

-- Some loops go, others come and so do guards: what goes comes again or is replaced, and nothing else is; what comes went or
-- is new; each split has its guard.
pub record Exchanges (s : Schedule) (new : List Derived) (old heads : List Head) (gs : List ℕ) : Type 0 where
  pub replaced : AllByRecursion (λ d. (is_head old d.var ≡ true) × (is_head heads d.var ≡ false)) new
  pub covered : AllByRecursion (λ (h : Head). (is_head heads h.var || is_replaced new h.var) ≡ true) old
  pub come : AllByRecursion (λ (h : Head). (is_head old h.var || nat_le (length s.names) h.var) ≡ true) heads
  pub differ : IsDistinct nat_eq (map (λ (h : Head). h.var) heads)
  pub guards : AllByRecursion (λ g. is_head old g ≡ true) gs
  pub guarded : AllByRecursion (λ d. is_split d.how ≡ true → list_any (λ g. nat_eq g d.var) gs ≡ true) new

-- these loops and those around
abbrev pub loops_of : List Head → Loops → Loops
loops_of [] a = a
loops_of (h ∷ hs) a = loops_of hs (also a h.var)

pub loops_of_is : (hs : List Head) (a : Loops) (u : ℕ) → loops_of hs a u ≡ (is_head hs u || a u)
loops_of_is [] a u = refl
loops_of_is (h ∷ hs) a u = loops_of_is hs (also a h.var) u ∙ go (nat_eq u h.var) (is_head hs u) (a u)
  where
    go : (p q r : Bool) → (q || (p || r)) ≡ ((p || q) || r)
    go true true r = refl
    go true false r = refl
    go false q r = refl

pub loops_of_either : (R : Type 0) (hs : List Head) (a : Loops) (u : ℕ) → loops_of hs a u ≡ true → (is_head hs u ≡ true → R) → (a u ≡ true → R) → R
loops_of_either R hs a u h f g = or_either R (is_head hs u) (a u) (sym (loops_of_is hs a u) ∙ h) f g

pub loops_of_head : (hs : List Head) (a : Loops) (u : ℕ) → is_head hs u ≡ true → loops_of hs a u ≡ true
loops_of_head hs a u h = loops_of_is hs a u ∙ or_left (is_head hs u) (a u) h

pub loops_of_around : (hs : List Head) (a : Loops) (u : ℕ) → a u ≡ true → loops_of hs a u ≡ true
loops_of_around hs a u h = loops_of_is hs a u ∙ or_right (is_head hs u) (a u) h

-- Below the loops that go ---------------------------------------------------------------------------------------------

module _ (s : Schedule) (name : Env) where
  -- what is known of a loop that goes
  abbrev pub IsGone : Loops → ℕ → Type 0
  IsGone a u = (u < length s.names) × (name u ≡ u) × (is_replaced s.derived u ≡ false) × (a u ≡ false)

  pub below_gone : (hs : List Head) (tree : Tree) (a : Loops) → BeginsWith hs tree → IsNamed s tree → AreLoops s.derived tree → AllFollow s.derived tree a name
      → AllByRecursion (λ (h : Head). IsGone a h.var) hs × IsNamed s (without_loops (length hs) tree) × AreLoops s.derived (without_loops (length hs) tree) × AllFollow s.derived (without_loops (length hs) tree) (loops_of hs a) name
  below_gone [] tree a b m l f = (tt, m, l, f)
  below_gone (h ∷ hs) (Loop v n walk body) a b m l f =
      let r = below_gone hs body (also a v) b.3 m.3 l.1 f.3 in (
        (
          subst (λ (z : ℕ). IsGone a z) b.0 (m.0, f.1, l.0, f.0),
          all_map (λ (x : Head). IsGone (also a v) x.var) (λ x. IsGone a x.var) (λ x g. (g.0, g.1, g.2, (or_parts (nat_eq x.var v) (a x.var) g.3).1)) hs r.0,
        ),
        r.1,
        r.2,
        subst (λ (z : ℕ). AllFollow s.derived (without_loops (length hs) body) (loops_of hs (also a z)) name) b.0 r.3,
      )
  below_gone (h ∷ hs) (Pre work pairs p q) a b m l f = absurd b
  below_gone (h ∷ hs) (Leaf lhs terms guards kernel) a b m l f = absurd b

  pub guards_gone : (hs : List Head) (tree : Tree) (a : Loops) → BeginsWith hs tree → HaveGuards s.derived tree a name → HaveGuards s.derived (without_loops (length hs) tree) (loops_of hs a) name
  guards_gone [] tree a b g = g
  guards_gone (h ∷ hs) (Loop v n walk body) a b g =
      subst (λ (z : ℕ). HaveGuards s.derived (without_loops (length hs) body) (loops_of hs (also a z)) name) b.0 (guards_gone hs body (also a v) b.3 g)
  guards_gone (h ∷ hs) (Pre work pairs p q) a b g = absurd b
  guards_gone (h ∷ hs) (Leaf lhs terms guards kernel) a b g = absurd b

  pub kernels_gone : (hs : List Head) (tree : Tree) (a : Loops) → BeginsWith hs tree → HaveKernels s.derived tree a name → HaveKernels s.derived (without_loops (length hs) tree) (loops_of hs a) name
  kernels_gone [] tree a b k = k
  kernels_gone (h ∷ hs) (Loop v n walk body) a b k =
      subst (λ (z : ℕ). HaveKernels s.derived (without_loops (length hs) body) (loops_of hs (also a z)) name) b.0 (kernels_gone hs body (also a v) b.3 k.1)
  kernels_gone (h ∷ hs) (Pre work pairs p q) a b k = absurd b
  kernels_gone (h ∷ hs) (Leaf lhs terms guards kernel) a b k = absurd b

-- below them stands no leaf with a kernel
pub kernel_gone : (hs : List Head) (tree : Tree) → BeginsWith hs tree → is_kernel_leaf (without_loops (length hs) tree) ≡ false
kernel_gone [] tree b = b
kernel_gone (h ∷ hs) (Loop v n walk body) b = kernel_gone hs body b.3
kernel_gone (h ∷ hs) (Pre work pairs p q) b = absurd b
kernel_gone (h ∷ hs) (Leaf lhs terms guards kernel) b = absurd b

-- Above the loops that come -------------------------------------------------------------------------------------------

-- none of the trees below these loops is a leaf with a kernel
pub kernel_heads : (hs : List Head) (tree : Tree) → is_kernel_leaf tree ≡ false → is_kernel_leaf (loops_around hs tree) ≡ false
kernel_heads [] tree h = h
kernel_heads (x ∷ hs) tree h = refl

-- a tree that isn't a leaf with a kernel asks for no substituted loop
pub not_substituted : (ds : List Derived) (tree : Tree) (a : Loops) (name : Env) → is_kernel_leaf tree ≡ false → IsSubstituted ds tree a name
not_substituted ds (Loop v n walk body) a name h = tt
not_substituted ds (Pre work pairs p q) a name h = tt
not_substituted ds (Leaf lhs terms guards Plain) a name h = tt
not_substituted ds (Leaf lhs terms guards Dot) a name h = absurd (cc)
not_substituted ds (Leaf lhs terms guards Dot3) a name h = absurd (cc)

all_heads : (P : ℕ → Type 0) (hs : List Head) → AllByRecursion P (map (λ (h : Head). h.var) hs) → AllByRecursion (λ (h : Head). P h.var) hs
all_heads P [] a = tt
all_heads P (h ∷ hs) a = (a.0, all_heads P hs a.1)

pub follows_heads : (ds : List Derived) (name : Env) (tree : Tree) (hs : List Head) (a : Loops) → AllByRecursion (λ (h : Head). (a h.var ≡ false) × (name h.var ≡ h.var)) hs → IsDistinct nat_eq (map (λ (h : Head). h.var) hs)
    → AllFollow ds tree (loops_of hs a) name → AllFollow ds (loops_around hs tree) a name
unfolding IsDistinct
follows_heads ds name tree [] a c d f = f
follows_heads ds name tree (h ∷ hs) a c d f = (
  c.0.0,
  c.0.1,
  tt,
  follows_heads ds name tree hs (also a h.var)
      (all_map (λ (x : Head). ((a x.var ≡ false) × (name x.var ≡ x.var)) × (nat_eq h.var x.var ≡ false)) (λ x. (also a h.var x.var ≡ false) × (name x.var ≡ x.var))
      (λ x p. (or_from (nat_eq x.var h.var) (a x.var) (ne_eqb x.var h.var (λ e. let t : nat_eq h.var x.var ≡ true = eq-eqb h.var x.var (sym e) in let f = p.1 in absurd (cc))) p.0.0, p.0.1))
      hs (all_and (λ (x : Head). (a x.var ≡ false) × (name x.var ≡ x.var)) (λ x. nat_eq h.var x.var ≡ false) hs c.1 (all_heads (λ y. nat_eq h.var y ≡ false) hs d.0)))
      d.1 f,
)

pub guards_heads : (ds : List Derived) (name : Env) (tree : Tree) (hs : List Head) (a : Loops) → HaveGuards ds tree (loops_of hs a) name → HaveGuards ds (loops_around hs tree) a name
guards_heads ds name tree [] a g = g
guards_heads ds name tree (h ∷ hs) a g = guards_heads ds name tree hs (also a h.var) g

pub kernels_heads : (ds : List Derived) (name : Env) (tree : Tree) (hs : List Head) (a : Loops) → is_kernel_leaf tree ≡ false → HaveKernels ds tree (loops_of hs a) name → HaveKernels ds (loops_around hs tree) a name
kernels_heads ds name tree [] a plain k = k
kernels_heads ds name tree (h ∷ hs) a plain k = (not_substituted ds (loops_around hs tree) a name (kernel_heads hs tree plain), kernels_heads ds name tree hs (also a h.var) plain k)

-- a tree's loops below those that come, without the new guards
pub loops_heads : (new : List Derived) (gs : List ℕ) (hs : List Head) (tree : Tree) → AreLoops new (loops_around hs (guarded gs tree)) → AreLoops new tree
loops_heads new gs [] (Loop v n walk body) l = (l.0, loops_heads new gs [] body l.1)
loops_heads new gs [] (Pre work pairs p q) l = (loops_heads new gs [] p l.0, loops_heads new gs [] q l.1)
loops_heads new gs [] (Leaf lhs terms guards kernel) l = tt
loops_heads new gs (h ∷ hs) tree l = loops_heads new gs hs tree l.1

-- At the place --------------------------------------------------------------------------------------------------------

module _ (s : Schedule) (new : List Derived) (old heads : List Head) (gs : List ℕ) (x : Exchanges s new old heads gs) (a : Loops) (name : Env) (at : Stands s new a a name)
    (gone : AllByRecursion (λ (h : Head). (h.var < length s.names) × (name h.var ≡ h.var) × (is_replaced s.derived h.var ≡ false) × (a h.var ≡ false)) old) (names : NameLoops heads new a) where
  gone_at : (u : ℕ) → is_head old u ≡ true → (u < length s.names) × (name u ≡ u) × (is_replaced s.derived u ≡ false) × (a u ≡ false)
  gone_at u h = head_fact (λ u. (u < length s.names) × (name u ≡ u) × (is_replaced s.derived u ≡ false) × (a u ≡ false)) old gone u h

  -- what comes or is around isn't replaced
  not_replaced : (u : ℕ) → (is_head heads u || a u) ≡ true → is_replaced new u ≡ false
  not_replaced u h =
      none_any (λ (d : Derived). nat_eq u d.var) new
      (all_map (λ (d : Derived). (is_head old d.var ≡ true) × (is_head heads d.var ≡ false)) (λ d. nat_eq u d.var ≡ false)
      (λ d p. ne_eqb u d.var (λ e. or_either ⊥ (is_head heads u) (a u) h
      (λ k. let f : is_head heads u ≡ false = ap (is_head heads) e ∙ p.1 in absurd (cc))
      (λ k. let f : a u ≡ false = ap a e ∙ (gone_at d.var p.0).3 in absurd (cc)))) new x.replaced)

  -- what comes went or is new
  came : (R : Type 0) (u : ℕ) → is_head heads u ≡ true → (is_head old u ≡ true → R) → (length s.names ≤ u → R) → R
  came R u h f g =
      or_either R (is_head old u) (nat_le (length s.names) u) (head_fact (λ u. (is_head old u || nat_le (length s.names) u) ≡ true) heads x.come u h)
      f (λ e. g (leb-true (length s.names) u e))

  leads_place : Leads (length s.names) new (loops_of old a) (loops_of heads a)
  leads_place = record {
    old = at.leads.old;
    kept = λ u h r. loops_of_either (loops_of heads a u ≡ true) old a u h
        (λ k. or_either (loops_of heads a u ≡ true) (is_head heads u) (is_replaced new u) (head_fact (λ u. (is_head heads u || is_replaced new u) ≡ true) old x.covered u k)
        (loops_of_head heads a u) (λ q. absurd (cc)))
        (loops_of_around heads a u);
    through =
        all_map (λ (d : Derived). AllByRecursion (λ u. (is_head heads u || a u) ≡ true) (sources d.how)) (λ d. loops_of old a d.var ≡ true → AllByRecursion (λ u. (loops_of heads a u ≡ true) × (is_replaced new u ≡ false)) (sources d.how))
        (λ d n h. all_map (λ u. (is_head heads u || a u) ≡ true) (λ u. (loops_of heads a u ≡ true) × (is_replaced new u ≡ false)) (λ u k. (loops_of_is heads a u ∙ k, not_replaced u k)) (sources d.how) n)
        new names;
    back = λ u l h. loops_of_either (loops_of old a u ≡ true) heads a u h
        (λ k. came (loops_of old a u ≡ true) u k (loops_of_head old a u) (λ le. absurd (omega (arith, l, le))))
        (loops_of_around old a u);
    missing =
        all_map (λ (d : Derived). (is_head old d.var ≡ true) × (is_head heads d.var ≡ false))
        (λ d. loops_of old a d.var ≡ false → list_any (λ u. nat_le (length s.names) u && not (loops_of heads a u)) (sources d.how) ≡ true)
        (λ d p h. let t : loops_of old a d.var ≡ true = loops_of_head old a d.var p.0 in absurd (cc)) new x.replaced;
  }

  pub stands_place : Stands s new (loops_of old a) (loops_of heads a) name
  stands_place = record {
    leads = leads_place;
    past = at.past;
    below = at.below;
    plain = λ u h. loops_of_either ((u < length s.names) × (name u ≡ u) × (is_replaced s.derived u ≡ false)) old a u h (λ k. let g = gone_at u k in (g.0, g.1, g.2)) (at.plain u);
  }

  pub covers_place : Covers new gs (loops_of old a)
  covers_place = record {
    around = all_map (λ g. is_head old g ≡ true) (λ g. loops_of old a g ≡ true) (λ g h. loops_of_head old a g h) gs x.guards;
    splits =
        all_map (λ (d : Derived). is_split d.how ≡ true → list_any (λ g. nat_eq g d.var) gs ≡ true) (λ d. is_split d.how ≡ true → loops_of old a d.var ≡ true → list_any (λ g. nat_eq g d.var) gs ≡ true)
        (λ d f t h. f t) new x.guarded;
  }

  -- a loop that comes isn't around, and has no other name
  pub apart_place : AllByRecursion (λ (h : Head). (a h.var ≡ false) × (name h.var ≡ h.var)) heads
  apart_place =
      all_map (λ (h : Head). (is_head old h.var || nat_le (length s.names) h.var) ≡ true) (λ h. (a h.var ≡ false) × (name h.var ≡ h.var))
      (λ h c. or_either ((a h.var ≡ false) × (name h.var ≡ h.var)) (is_head old h.var) (nat_le (length s.names) h.var) c
      (λ k. let g = gone_at h.var k in (g.3, g.1))
      (λ e. let le : length s.names ≤ h.var = leb-true (length s.names) h.var e in (far h.var le (a h.var) (λ k. (at.plain h.var k).0), at.past h.var le)))
      heads x.come
    where
      far : (u : ℕ) → length s.names ≤ u → (t : Bool) → (t ≡ true → u < length s.names) → t ≡ false
      far u le true r = let l = r refl in absurd (omega (arith, l, le))
      far u le false r = refl
