-- A cut keeps what is added at the loops that it cuts.
use Rattle.std.proofs.Common.{◌≡◌, ℕ, ◌+◌, ◌≤◌, Bool, true, false, ◌||◌, List, [], ◌∷◌, ◌++◌, ◌⊎◌, inl, inr, length, refl, sym, ap, ◌∙◌, subst, arith}
use Rattle.std.specs.Prelude.{if◌then◌else◌, nat_eq, nat_le}
use Rattle.std.specs.List.{AllByRecursion}
use Rattle.std.proofs.Math.Path.{fun_ext}
use Rattle.std.proofs.lemmas.Bool.{eqb-true, eq-eqb, leb-true, or_left, or_right, or_cases, or_parts}
use Rattle.dt_nest.specs.declared.derivations.Derived.{Derived}
use Rattle.dt_cuts.specs.declared.cuts.Head.{Head}
use Rattle.dt_cuts.specs.declared.cuts.Cut.{Cut}
use Rattle.dt_nest.proofs.Each.{all_map}
use Rattle.dt_nest.specs.Tree.{Tree, Loop, Pre, Leaf, times}
use Rattle.dt_nest.specs.Schedule.{Schedule}
use Rattle.dt_nest.specs.Meaning.{World, Env, Entries, bind, known, guards_hold, nest_sum}
use Rattle.dt_nest.specs.Lawful.{sources, is_replaced, Loops, also}
use Rattle.dt_nest.proofs.SumLaws.{sum_below_same}
use Rattle.dt_cuts.specs.Place.{loops_around, without_loops, guarded}
use Rattle.dt_cuts.specs.Cutting.{is_head, BeginsWith, NameLoops, IsNewHead, IsCut, sum_over, KeepsBelowFor}
use Rattle.dt_nest.proofs.Agree.{nest_agree}
use Rattle.dt_cuts.proofs.Push.{nest_push}
use Rattle.dt_cuts.proofs.Clear.{IsOwn, AreOwn, clear_of, clear_guarded}
use Rattle.dt_cuts.proofs.GuardLaw.{nest_guarded}
use Rattle.dt_cuts.proofs.Standing.{Stands, stands_below}
use Rattle.dt_cuts.proofs.CutFacts.{head_fact}

-- the set with these loops
abbrev pub also_heads : Loops → List Head → Loops
also_heads around hs u = is_head hs u || around u

-- a loop that has no new name and is not around
abbrev pub IsOutside : Loops → Env → Head → Type 0
IsOutside around name h = (name h.var ≡ h.var) × (around h.var ≡ false)

-- the loops of a cut begin the tree, and the new derivations name those that come and those around
abbrev pub CutsAt : Cut → Tree → Loops → Type 0
CutsAt c tree around = BeginsWith c.old tree × NameLoops c.heads c.derived around

-- Loops in a row -----------------------------------------------------------------------------------------------------------

-- equal functions have equal sums
pub sum_over_same : (hs : List Head) (f g : Env → ℕ) (env : Env) → ((e : Env) → f e ≡ g e) → sum_over hs f env ≡ sum_over hs g env
sum_over_same hs f g env h = ap (λ (q : Env → ℕ). sum_over hs q env) (fun_ext h)

-- loops around a tree add the sum over their values
pub nest_around : (w : World) (ds : List Derived) (hs : List Head) (tree : Tree) (x : Entries) (name env : Env) (c : List ℕ) → nest_sum w ds (loops_around hs tree) x name env c ≡ sum_over hs (λ e. nest_sum w ds tree x name e c) env
unfolding nest_sum sum_over
nest_around w ds [] tree x name env c = refl
nest_around w ds (h ∷ hs) tree x name env c = sum_below_same h.extent _ _ (λ i k. nest_around w ds hs tree x name (bind env h.var i) c)

-- so does a tree that begins with them
pub nest_begins : (w : World) (ds : List Derived) (hs : List Head) (tree : Tree) → BeginsWith hs tree → (x : Entries) (name env : Env) (c : List ℕ)
    → nest_sum w ds tree x name env c ≡ sum_over hs (λ e. nest_sum w ds (without_loops (length hs) tree) x name e c) env
unfolding nest_sum sum_over
nest_begins w ds [] tree b x name env c = refl
nest_begins w ds (h ∷ hs) (Loop v n walk body) b x name env c =
    rw (b.0, b.1, b.2) (sum_below_same h.extent _ _ (λ i k. nest_begins w ds hs body b.3 x name (bind env h.var i) c))
nest_begins w ds (h ∷ hs) (Pre work pairs producer consumer) b x name env c = absurd b
nest_begins w ds (h ∷ hs) (Leaf lhs terms guards kernel) b x name env c = absurd b

-- each of them stands in it
pub begins_times : (hs : List Head) (tree : Tree) → BeginsWith hs tree → (u : ℕ) → is_head hs u ≡ true → 1 ≤ times u tree
begins_times [] tree b u e = absurd (cc)
begins_times (h ∷ hs) (Loop v n walk body) b u e = go (nat_eq u h.var) (eqb-true u h.var) e (λ e. begins_times hs body b.3 u e)
  where
    go : (t : Bool) → (t ≡ true → u ≡ h.var) → (t || is_head hs u) ≡ true → (is_head hs u ≡ true → 1 ≤ times u body) → 1 ≤ times u (Loop v n walk body)
    go true q e r = let k : nat_eq v u ≡ true = eq-eqb v u (b.0 ∙ sym (q refl)) in let m : times u (Loop v n walk body) ≡ 1 + times u body = ap (λ z. (if z then 1 else 0) + times u body) k in omega arith
    go false q e r = let l = r e in omega arith
begins_times (h ∷ hs) (Pre work pairs producer consumer) b u e = absurd b
begins_times (h ∷ hs) (Leaf lhs terms guards kernel) b u e = absurd b

-- what is below them is at its place there
pub stands_inside : (s : Schedule) (ds : List Derived) (hs : List Head) (tree : Tree) (around : Loops) (name : Env) → BeginsWith hs tree → Stands s ds tree around name
    → Stands s ds (without_loops (length hs) tree) (also_heads around hs) name
stands_inside s ds [] tree around name b t = t
stands_inside s ds (h ∷ hs) (Loop v n walk body) around name b t =
    subst (λ (l : Loops). Stands s ds (without_loops (length hs) body) l name) (fun_ext (λ u. ap (λ z. is_head hs u || (nat_eq u z || around u)) b.0 ∙ swaps (is_head hs u) (nat_eq u h.var) (around u)))
    (stands_inside s ds hs body (also around v) name b.3 (stands_below s ds v n walk body around name t))
  where
    swaps : (p q r : Bool) → (p || (q || r)) ≡ ((q || p) || r)
    swaps true true r = refl
    swaps true false r = refl
    swaps false true r = refl
    swaps false false r = refl
stands_inside s ds (h ∷ hs) (Pre work pairs producer consumer) around name b t = absurd b
stands_inside s ds (h ∷ hs) (Leaf lhs terms guards kernel) around name b t = absurd b

-- they have no new name, and none of them is around
pub begins_outside : (s : Schedule) (ds : List Derived) (hs : List Head) (tree : Tree) (around : Loops) (name : Env) → BeginsWith hs tree → Stands s ds tree around name
    → AllByRecursion (IsOutside around name) hs
begins_outside s ds [] tree around name b t = tt
begins_outside s ds (h ∷ hs) (Loop v n walk body) around name b t = (
  (subst (λ (z : ℕ). name z ≡ z) b.0 t.follows.1, subst (λ (z : ℕ). around z ≡ false) b.0 t.follows.0),
  all_map (IsOutside (also around v) name) (IsOutside around name) (λ h k. (k.0, (or_parts (nat_eq h.var v) (around h.var) k.1).1)) hs
      (begins_outside s ds hs body (also around v) name b.3 (stands_below s ds v n walk body around name t)),
)
begins_outside s ds (h ∷ hs) (Pre work pairs producer consumer) around name b t = absurd b
begins_outside s ds (h ∷ hs) (Leaf lhs terms guards kernel) around name b t = absurd b

-- At the place of a cut -----------------------------------------------------------------------------------------------------

-- one of the loops that go, or a new one
abbrev pub MayCome : Cut → Schedule → ℕ → Type 0
MayCome c s u = (is_head c.old u ≡ true) ⊎ (length s.names ≤ u)

-- a replaced loop is one of those that go
pub replaced_goes : (c : Cut) (s : Schedule) → IsCut s c → (u : ℕ) → is_replaced c.derived u ≡ true → is_head c.old u ≡ true
replaced_goes c s k = among c.derived k.replaced
  where
    among : (ds : List Derived) → AllByRecursion (λ d. (is_head c.old d.var ≡ true) × (is_head c.heads d.var ≡ false)) ds → (u : ℕ) → is_replaced ds u ≡ true → is_head c.old u ≡ true
    among [] h u r = absurd (cc)
    among (d ∷ ds) h u r = go (nat_eq u d.var) (eqb-true u d.var) r (λ r. among ds h.1 u r)
      where
        go : (b : Bool) → (b ≡ true → u ≡ d.var) → (b || is_replaced ds u) ≡ true → (is_replaced ds u ≡ true → is_head c.old u ≡ true) → is_head c.old u ≡ true
        go true e r f = ap (is_head c.old) (e refl) ∙ h.0.0
        go false e r f = f r

module _ (s : Schedule) (c : Cut) (k : IsCut s c) (ds : List Derived) (tree : Tree) (around : Loops) (name : Env) (t : Stands s ds tree around name) (place : CutsAt c tree around) where
  old_outside : AllByRecursion (IsOutside around name) c.old
  old_outside = begins_outside s ds c.old tree around name place.0 t

  -- a loop that comes is one that went, or new
  heads_come : AllByRecursion (λ (h : Head). MayCome c s h.var) c.heads
  heads_come = all_map (IsNewHead c s) (λ (h : Head). MayCome c s h.var) (λ h e. go h.var (or_cases (is_head c.old h.var) (nat_le (length s.names) h.var) e.0)) c.heads k.heads
    where
      go : (u : ℕ) → (is_head c.old u ≡ true) ⊎ (nat_le (length s.names) u ≡ true) → MayCome c s u
      go u (inl a) = inl a
      go u (inr l) = inr (leb-true (length s.names) u l)

  -- so it has no new name, and is not around
  heads_outside : AllByRecursion (IsOutside around name) c.heads
  heads_outside = all_map (λ (h : Head). MayCome c s h.var) (IsOutside around name) (λ h e. apart h.var e) c.heads heads_come
    where
      outside : (u : ℕ) → length s.names ≤ u → (p : Bool) → around u ≡ p → p ≡ false
      outside u l true e = absurd (let m = t.place.below u e in omega arith)
      outside u l false e = refl

      apart : (u : ℕ) → MayCome c s u → (name u ≡ u) × (around u ≡ false)
      apart u (inl a) = head_fact (λ u. (name u ≡ u) × (around u ≡ false)) c.old old_outside u a
      apart u (inr l) = (t.place.past u l, outside u l (around u) refl)

  -- the derivations replace loops that went, and name those that came and those around
  derived_own : AreOwn s (also_heads around c.old) c.derived
  derived_own = pairs c.derived k.replaced place.1
    where
      source : (u : ℕ) → (is_head c.heads u || around u) ≡ true → IsOwn s (also_heads around c.old) u
      source u e = go (or_cases (is_head c.heads u) (around u) e)
        where
          own : MayCome c s u → IsOwn s (also_heads around c.old) u
          own (inl a) = inl (or_left (is_head c.old u) (around u) a)
          own (inr l) = inr l

          go : (is_head c.heads u ≡ true) ⊎ (around u ≡ true) → IsOwn s (also_heads around c.old) u
          go (inl a) = own (head_fact (MayCome c s) c.heads heads_come u a)
          go (inr a) = inl (or_right (is_head c.old u) (around u) a)

      pairs : (new : List Derived) → AllByRecursion (λ d. (is_head c.old d.var ≡ true) × (is_head c.heads d.var ≡ false)) new → NameLoops c.heads new around → AreOwn s (also_heads around c.old) new
      pairs [] r m = tt
      pairs (d ∷ new) r m = (
        (or_left (is_head c.old d.var) (around d.var) r.0.0, all_map (λ u. (is_head c.heads u || around u) ≡ true) (IsOwn s (also_heads around c.old)) source (sources d.how) m.0),
        pairs new r.1 m.1,
      )

  -- What is added below the loops that come is what was added below those that went, if what is below them has the fact.
  pub cut_there : (w : World) (Q : Loops → Env → (Env → ℕ) → Type 0) → KeepsBelowFor Q w c → (x : Entries) (env : Env) (at : List ℕ) → Q around name (λ e. nest_sum w ds (without_loops (length c.old) tree) x name e at)
      → nest_sum w (ds ++ c.derived) (loops_around c.heads (guarded c.guards (without_loops (length c.old) tree))) x name env at ≡ nest_sum w ds tree x name env at
  cut_there w Q keeps x env at fact =
      nest_around w (ds ++ c.derived) c.heads (guarded c.guards rest) x name env at
      ∙ sum_over_same c.heads _ _ env below
      ∙ keeps around name env (λ e. nest_sum w ds rest x name e at) t.place.same
      (own_names c.old old_outside) (own_names c.heads heads_outside) (not_around c.old old_outside) (not_around c.heads heads_outside)
      place.1 (λ p q same. nest_agree w ds rest (also_heads around c.old) name inside.follows inside.loops x p q at same) fact
      ∙ sym (nest_begins w ds c.old tree place.0 x name env at)
    where
      own_names : (hs : List Head) → AllByRecursion (IsOutside around name) hs → AllByRecursion (λ (h : Head). name h.var ≡ h.var) hs
      own_names hs = all_map (IsOutside around name) (λ (h : Head). name h.var ≡ h.var) (λ h q. q.0) hs

      not_around : (hs : List Head) → AllByRecursion (IsOutside around name) hs → AllByRecursion (λ (h : Head). around h.var ≡ false) hs
      not_around hs = all_map (IsOutside around name) (λ (h : Head). around h.var ≡ false) (λ h q. q.1) hs

      rest : Tree
      rest = without_loops (length c.old) tree

      inside : Stands s ds rest (also_heads around c.old) name
      inside = stands_inside s ds c.old tree around name place.0 t

      guards_own : AllByRecursion (λ g. (is_head c.old g || around g) ≡ true) c.guards
      guards_own = all_map (λ g. is_head c.old g ≡ true) (λ g. (is_head c.old g || around g) ≡ true) (λ g q. or_left (is_head c.old g) (around g) q) c.guards k.guards

      below : (e : Env) → nest_sum w (ds ++ c.derived) (guarded c.guards rest) x name e at
          ≡ (if guards_hold w (known w c.derived name e) c.guards then nest_sum w ds rest x name (known w c.derived name e) at else 0)
      below e =
          nest_push w ds c.derived (guarded c.guards rest) name (clear_guarded w c.derived c.guards rest name (clear_of s w ds c.derived rest (also_heads around c.old) name inside derived_own)) x e at
          ∙ nest_guarded s w ds c.guards rest (also_heads around c.old) name inside guards_own x (known w c.derived name e) at (guards_hold w (known w c.derived name e) c.guards) refl
