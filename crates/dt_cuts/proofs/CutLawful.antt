-- A cut keeps a schedule lawful.
use Rattle.std.proofs.Common.{◌≡◌, ℕ, ◌+◌, ◌<◌, ◌≤◌, ◌^◌, Bool, true, false, ◌||◌, List, [], ◌∷◌, ◌++◌, length, refl, sym, ap, ◌∙◌, subst, arith, append-nil, length-append}
use Rattle.std.specs.Prelude.{MatchBool, nat_eq, nat_le, slice_index}
use Rattle.std.specs.List.{AllByRecursion, list_any}
use Rattle.std.proofs.lemmas.Bool.{eqb-true, leb-true, or_from}
use Rattle.std.proofs.lemmas.List.{get_or_append_left}
use Rattle.dt_nest.specs.declared.derivations.Derived.{Derived}
use Rattle.dt_nest.specs.declared.parts.Moved.{Moved}
use Rattle.dt_cuts.specs.declared.cuts.Head.{Head}
use Rattle.dt_cuts.specs.declared.cuts.Cut.{Cut}
use Rattle.dt_model.specs.declared.stmt.Access.{Access}
use Rattle.dt_nest.proofs.Each.{all_map, all_append}
use Rattle.dt_nest.specs.Tree.{Tree, Loop, Pre, Leaf, loop_count, leaf_count, times, has_loop, is_kernel_leaf, accesses_of}
use Rattle.dt_nest.specs.Schedule.{Schedule}
use Rattle.dt_cuts.specs.Place.{loops_around, without_loops, guarded}
use Rattle.dt_nest.specs.Questions.{is_among}
use Rattle.dt_nest.specs.Lawful.{HasNames, IsNamed, CoordinateAppears, sources, is_replaced, IsBounded, AreNamed, AreOrdered, AreLoops, Loops, also, AllFollow, HaveGuards, HaveKernels, AreDistributed, IsCommunicate, AreCommunicated, nodes_with, WorksStand, WorkAccess, AreWorks, IsLawful}
use Rattle.dt_cuts.specs.Cutting.{cut_tree, cut_by, is_head, BeginsWith, HoldsAt, NameLoops, IsNewHead, IsCut}
use Rattle.dt_nest.proofs.Truth.{or_either, below_or_past, all_and, any_with, any_none}
use Rattle.dt_nest.proofs.Leads.{also_either, past_replaced, replaced_append, Stands, stands_first, named_vars}
use Rattle.dt_cuts.proofs.Staying.{covers_none}
use Rattle.dt_cuts.proofs.Extending.{Extends, named_more, derived_more, work_access_more, named_guarded, past_append, ordered_append}
use Rattle.dt_nest.proofs.NamedAccesses.{named_accesses}
use Rattle.dt_nest.specs.Outputs.{WritesWorks}
use Rattle.dt_cuts.proofs.CutCounts.{loop_sum, head_sum, one_at, times_sum, count_sum, head_count, times_has, times_past, loops_by_times, times_of_loops, head_times, no_head_times, distinct_times, holds_map, BeginAt, loop_after, sum_cut}
use Rattle.dt_cuts.proofs.Bare.{bare, bare_cut, leaves_bare, accesses_cut, nodes_bare, stand_bare, bare_stand, bare_written, written_bare}
use Rattle.dt_cuts.proofs.CutWalks.{walks_cut}
use Rattle.dt_cuts.proofs.CutPlace.{Exchanges}
use Rattle.dt_cuts.proofs.CutParts.{kernel_cut, distributed_cut, communicate_cut, IsFit, follows_cut, guards_cut, kernels_cut}
use Rattle.dt_cuts.proofs.CutFacts.{head_fact}

-- Names ---------------------------------------------------------------------------------------------------------------

-- a cut adds names
pub extends_cut : (s : Schedule) (c : Cut) → HasNames s → Extends s (cut_by c s)
extends_cut s c n = record {
  names = let e = length-append s.names c.names in omega (arith, e);
  extents = λ u l. get_or_append_left s.extents c.extents 0 u (omega (arith, l, n.extents));
  tensors = refl;
  works = omega arith;
}

pub names_cut : (s : Schedule) (c : Cut) → HasNames s → IsCut s c → length s.names + length c.names < 2 ^ 32 → HasNames (cut_by c s)
names_cut s c n k few = record {
  loops = k.names;
  tensors = n.tensors;
  extents = let a = length-append s.names c.names in let b = length-append s.extents c.extents in omega (arith, a, b, n.extents, k.extents);
  few = let a = length-append s.names c.names in omega (arith, a, few);
  few_tensors = n.few_tensors;
}

pub derived_cut : (s : Schedule) (c : Cut) → IsLawful s → IsCut s c → AreNamed (cut_by c s) (s.derived ++ c.derived)
derived_cut s c l k =
    all_append (λ d. (d.var < length (cut_by c s).names) × AllByRecursion (λ u. u < length (cut_by c s).names) (sources d.how) × IsBounded (cut_by c s) d.var d.how) s.derived c.derived
    (derived_more s (cut_by c s) (extends_cut s c l.names) s.derived l.derived) k.named

named_without : (s : Schedule) (hs : List Head) (tree : Tree) → BeginsWith hs tree → IsNamed s tree → IsNamed s (without_loops (length hs) tree)
named_without s [] tree b m = m
named_without s (h ∷ hs) (Loop v n walk body) b m = named_without s hs body b.3 m.3
named_without s (h ∷ hs) (Pre work pairs p q) b m = absurd b
named_without s (h ∷ hs) (Leaf lhs terms guards kernel) b m = absurd b

named_around : (s : Schedule) (hs : List Head) → AllByRecursion (λ (h : Head). (h.var < length s.names) × (slice_index s.extents h.var ≡ h.extent)) hs → (tree : Tree) → IsNamed s tree → IsNamed s (loops_around hs tree)
named_around s [] all tree m = m
named_around s (h ∷ hs) all tree m = (all.0.0, all.0.1, tt, named_around s hs all.1 tree m)

-- the loops that come have names
pub named_cut : (s : Schedule) (h : Head) (hs heads : List Head) (gs : List ℕ) → AllByRecursion (λ (h : Head). (h.var < length s.names) × (slice_index s.extents h.var ≡ h.extent)) heads → AllByRecursion (λ g. g < length s.names) gs
    → (tree : Tree) (a : Loops) → BeginAt h hs tree a → IsNamed s tree → IsNamed s (cut_tree (h ∷ hs) heads gs tree)
named_cut s h hs heads gs all below (Loop u n walk body) a at m = go (nat_eq u h.var) at (λ at. named_cut s h hs heads gs all below body (also a u) at m.3)
  where
    go : (t : Bool) → MatchBool t (BeginsWith (h ∷ hs) (Loop u n walk body)) (BeginAt h hs body (also a u))
        → (BeginAt h hs body (also a u) → IsNamed s (cut_tree (h ∷ hs) heads gs body))
        → IsNamed s (loop_after h hs heads gs t u n walk body)
    go true at r = named_around s heads all (guarded gs (without_loops (length hs) body)) (named_guarded s gs below (without_loops (length hs) body) (named_without s hs body at.3 m.3))
    go false at r = (m.0, m.1, m.2, r at)
named_cut s h hs heads gs all below (Pre work pairs p q) a at m = (m.0, m.1, named_cut s h hs heads gs all below p a at.0 m.2, named_cut s h hs heads gs all below q a at.1 m.3)
named_cut s h hs heads gs all below (Leaf lhs terms guards kernel) a at m = m

-- what the derivations of a cut name was not replaced
sources_whole : (ds new : List Derived) (heads : List Head) (v : ℕ) (P : Tree → Type 0) → ((u : ℕ) → is_head heads u ≡ true → is_replaced ds u ≡ false) → (tree : Tree) (a : Loops) → ((u : ℕ) → a u ≡ true → is_replaced ds u ≡ false)
    → AreLoops ds tree → has_loop v tree ≡ true → HoldsAt v (λ t a. P t × NameLoops heads new a) tree a → AllByRecursion (λ d. AllByRecursion (λ u. is_replaced ds u ≡ false) (sources d.how)) new
sources_whole ds new heads v P come (Loop u n walk body) a whole l has at =
    go (nat_eq u v) has at (λ has at. sources_whole ds new heads v P come body (also a u) more l.1 has at)
  where
    more : (z : ℕ) → also a u z ≡ true → is_replaced ds z ≡ false
    more z h = also_either (is_replaced ds z ≡ false) a u z h (λ e. subst (λ (y : ℕ). is_replaced ds y ≡ false) (sym e) l.0) (whole z)

    go : (t : Bool) → (t || has_loop v body) ≡ true → MatchBool t (P (Loop u n walk body) × NameLoops heads new a) (HoldsAt v (λ t a. P t × NameLoops heads new a) body (also a u))
        → (has_loop v body ≡ true → HoldsAt v (λ t a. P t × NameLoops heads new a) body (also a u) → AllByRecursion (λ d. AllByRecursion (λ u. is_replaced ds u ≡ false) (sources d.how)) new)
        → AllByRecursion (λ d. AllByRecursion (λ u. is_replaced ds u ≡ false) (sources d.how)) new
    go true has at r =
        all_map (λ (d : Derived). AllByRecursion (λ u. (is_head heads u || a u) ≡ true) (sources d.how)) (λ d. AllByRecursion (λ u. is_replaced ds u ≡ false) (sources d.how))
        (λ d n. all_map (λ u. (is_head heads u || a u) ≡ true) (λ u. is_replaced ds u ≡ false) (λ u h. or_either (is_replaced ds u ≡ false) (is_head heads u) (a u) h (come u) (whole u)) (sources d.how) n) new at.1
    go false has at r = r has at
sources_whole ds new heads v P come (Pre work pairs p q) a whole l has at =
    or_either (AllByRecursion (λ d. AllByRecursion (λ u. is_replaced ds u ≡ false) (sources d.how)) new) (has_loop v p) (has_loop v q) has
    (λ has. sources_whole ds new heads v P come p a whole l.0 has at.0) (λ has. sources_whole ds new heads v P come q a whole l.1 has at.1)
sources_whole ds new heads v P come (Leaf lhs terms guards kernel) a whole l has at = absurd (cc)

-- communicate loops don't go
pub moved_stay : (moved : List Moved) (hs : List Head) → AllByRecursion (λ (h : Head). list_any (λ (m : Moved). nat_eq m.at h.var) moved ≡ false) hs → AllByRecursion (λ (m : Moved). is_head hs m.at ≡ false) moved
moved_stay moved [] h = each moved
  where
    each : (ms : List Moved) → AllByRecursion (λ m. false ≡ false) ms
    each [] = tt
    each (m ∷ ms) = (refl, each ms)
moved_stay moved (x ∷ hs) h =
    all_map (λ (m : Moved). (nat_eq m.at x.var ≡ false) × (is_head hs m.at ≡ false)) (λ m. is_head (x ∷ hs) m.at ≡ false) (λ m p. or_from (nat_eq m.at x.var) (is_head hs m.at) p.0 p.1) moved
    (all_and (λ (m : Moved). nat_eq m.at x.var ≡ false) (λ m. is_head hs m.at ≡ false) moved (any_none (λ (m : Moved). nat_eq m.at x.var) moved h.0) (moved_stay moved hs h.1))

-- the cut with these parts
abbrev pub cut_of : List Head → List Head → List ℕ → List Derived → List (List ℕ) → List ℕ → Cut
cut_of old heads guards derived names extents = record { old = old; heads = heads; guards = guards; derived = derived; names = names; extents = extents }

-- Where loops go ------------------------------------------------------------------------------------------------------

module _ (s : Schedule) (h : Head) (hs heads : List Head) (gs : List ℕ) (new : List Derived) (names : List (List ℕ)) (extents : List ℕ) (l : IsLawful s) (k : IsCut s (cut_of (h ∷ hs) heads gs new names extents)) where
  -- the cut, the schedule after it, and its tree
  abbrev pub this : Cut
  this = cut_of (h ∷ hs) heads gs new names extents

  abbrev pub after : Schedule
  after = cut_by this s

  abbrev pub tree : Tree
  tree = cut_tree (h ∷ hs) heads gs s.nest

  begins : BeginAt h hs s.nest (λ u. false)
  begins = holds_map h.var (λ t a. BeginsWith (h ∷ hs) t × NameLoops heads new a) (λ t a. BeginsWith (h ∷ hs) t) (λ t a q. q.0) s.nest (λ u. false) k.stand.1

  once : times h.var s.nest ≡ 1
  once = let a = times_has h.var s.nest k.stand.0 in let b = l.differ h.var in omega (arith, a, b)

  counts : (f : ℕ → ℕ) → loop_sum f tree + head_sum f (h ∷ hs) ≡ loop_sum f s.nest + head_sum f heads
  counts f = sum_cut h hs heads gs f s.nest (λ u. false) once begins

  times_after : (u : ℕ) → times u tree + head_sum (one_at u) (h ∷ hs) ≡ times u s.nest + head_sum (one_at u) heads
  times_after u = let a = times_sum u tree in let b = times_sum u s.nest in let c = counts (one_at u) in omega (arith, a, b, c)

  -- a loop that goes
  old_loop : (u : ℕ) → is_head (h ∷ hs) u ≡ true → 1 ≤ times u s.nest
  old_loop u i =
      let a = head_times (h ∷ hs) u i in let b = times_sum u s.nest in
      let c : loop_sum (one_at u) (cut_tree (h ∷ hs) [] [] s.nest) + head_sum (one_at u) (h ∷ hs) ≡ loop_sum (one_at u) s.nest + 0 = sum_cut h hs [] [] (one_at u) s.nest (λ u. false) once begins in omega (arith, a, b, c)

  old_below : (u : ℕ) → is_head (h ∷ hs) u ≡ true → u < length s.names
  old_below u i = below_or_past (u < length s.names) u (length s.names) (λ q. q) (λ le. let a = times_past s u s.nest le l.named in let b = old_loop u i in absurd (omega (arith, a, b)))

  old_whole : (u : ℕ) → is_head (h ∷ hs) u ≡ true → is_replaced s.derived u ≡ false
  old_whole u i = times_of_loops s.derived s.nest l.loops u (old_loop u i)

  -- one that comes
  come : AllByRecursion (λ (x : Head). (is_head (h ∷ hs) x.var || nat_le (length s.names) x.var) ≡ true) heads
  come = all_map (IsNewHead this s) (λ (x : Head). (is_head (h ∷ hs) x.var || nat_le (length s.names) x.var) ≡ true) (λ x n. n.0) heads k.heads

  came : (R : Type 0) (u : ℕ) → is_head heads u ≡ true → (is_head (h ∷ hs) u ≡ true → R) → (length s.names ≤ u → R) → R
  came R u i f g =
      or_either R (is_head (h ∷ hs) u) (nat_le (length s.names) u) (head_fact (λ u. (is_head (h ∷ hs) u || nat_le (length s.names) u) ≡ true) heads come u i)
      f (λ e. g (leb-true (length s.names) u e))

  new_derived : AllByRecursion (λ d. d.var < length s.names) new
  new_derived = all_map (λ (d : Derived). (is_head (h ∷ hs) d.var ≡ true) × (is_head heads d.var ≡ false)) (λ d. d.var < length s.names) (λ d p. old_below d.var p.0) new k.replaced

  come_whole : (u : ℕ) → is_head heads u ≡ true → is_replaced s.derived u ≡ false
  come_whole u i = came (is_replaced s.derived u ≡ false) u i (old_whole u) (past_replaced (length s.names) s.derived (named_vars s s.derived l.derived) u)

  pub exchanges : Exchanges s new (h ∷ hs) heads gs
  exchanges = record { replaced = k.replaced; covered = k.covered; come = come; differ = k.differ; guards = k.guards; guarded = k.guarded }

  -- Loops -------------------------------------------------------------------------------------------------------------

  pub few_after : loop_count tree ≤ 16
  few_after =
      let a = count_sum tree in let b = count_sum s.nest in
      let c : loop_sum (λ z. 1) tree + head_sum (λ z. 1) (h ∷ hs) ≡ loop_sum (λ z. 1) s.nest + head_sum (λ z. 1) heads = counts (λ z. 1) in
      let d : head_sum (λ z. 1) (h ∷ hs) ≡ length (h ∷ hs) = head_count (h ∷ hs) in let e = head_count heads in
      let f : loop_count s.nest + length heads ≤ 16 + length (h ∷ hs) = k.few in omega (arith, a, b, c, d, e, f)

  pub differ_after : (u : ℕ) → times u tree ≤ 1
  differ_after u = go (is_head heads u) refl
    where
      go : (t : Bool) → is_head heads u ≡ t → times u tree ≤ 1
      go true e =
          let a = times_after u in let b = distinct_times heads u k.differ in let c = l.differ u in
          came (times u tree ≤ 1) u e
          (λ i. let d = head_times (h ∷ hs) u i in omega (arith, a, b, c, d))
          (λ le. let d = times_past s u s.nest le l.named in omega (arith, a, b, d))
      go false e = let a = times_after u in let b = no_head_times heads u e in let c = l.differ u in omega (arith, a, b, c)

  -- a loop after the cut was not replaced
  whole_before : (u : ℕ) → 1 ≤ times u tree → is_replaced s.derived u ≡ false
  whole_before u more = go (is_head heads u) refl
    where
      go : (t : Bool) → is_head heads u ≡ t → is_replaced s.derived u ≡ false
      go true e = come_whole u e
      go false e = let a = times_after u in let b = no_head_times heads u e in times_of_loops s.derived s.nest l.loops u (omega (arith, a, b, more))

  -- nor is it now
  whole_now : (u : ℕ) → 1 ≤ times u tree → is_replaced new u ≡ false
  whole_now u more = go (is_replaced new u) refl
    where
      apart : (d : Derived) → nat_eq u d.var ≡ true → (is_head (h ∷ hs) d.var ≡ true) × (is_head heads d.var ≡ false) → ⊥
      apart d e p =
          let q = eqb-true u d.var e in
          let a = times_after u in
          let b = head_times (h ∷ hs) u (ap (is_head (h ∷ hs)) q ∙ p.0) in
          let c = no_head_times heads u (ap (is_head heads) q ∙ p.1) in
          let m = l.differ u in omega (arith, a, b, c, m, more)

      go : (t : Bool) → is_replaced new u ≡ t → is_replaced new u ≡ false
      go true e = absurd (any_with ⊥ (λ (d : Derived). nat_eq u d.var) (λ d. (is_head (h ∷ hs) d.var ≡ true) × (is_head heads d.var ≡ false)) apart new e k.replaced)
      go false e = e

  kept : AreLoops new tree
  kept = loops_by_times new tree whole_now

  pub loops_after : AreLoops (s.derived ++ new) tree
  loops_after = loops_by_times (s.derived ++ new) tree (λ u more. replaced_append s.derived new u (whole_before u more) (whole_now u more))

  pub ordered_after : AreOrdered (s.derived ++ new)
  ordered_after =
      ordered_append s.derived new l.ordered k.ordered
      (past_append s.derived new
      (all_and (λ (d : Derived). is_replaced s.derived d.var ≡ false) (λ d. AllByRecursion (λ u. is_replaced s.derived u ≡ false) (sources d.how)) new
      (all_map (λ (d : Derived). (is_head (h ∷ hs) d.var ≡ true) × (is_head heads d.var ≡ false)) (λ d. is_replaced s.derived d.var ≡ false) (λ d p. old_whole d.var p.0) new k.replaced)
      (sources_whole s.derived new heads h.var (BeginsWith (h ∷ hs)) come_whole s.nest (λ u. false) (λ u q. absurd (cc)) l.loops k.stand.0 k.stand.1)))

  pub named_after : IsNamed after tree
  named_after =
      let e = length-append s.names names in
      named_cut after h hs heads gs
      (all_map (IsNewHead this s) (λ (x : Head). (x.var < length (s.names ++ names)) × (slice_index (s.extents ++ extents) x.var ≡ x.extent)) (λ x n. (subst (λ (m : ℕ). x.var < m) (sym e) n.1, n.2)) heads k.heads)
      (all_map (λ g. is_head (h ∷ hs) g ≡ true) (λ g. g < length (s.names ++ names)) (λ g i. let b = old_below g i in omega (arith, b, e)) gs k.guards)
      s.nest (λ u. false) begins (named_more s after (extends_cut s this l.names) s.nest l.named)

  -- Loops around ------------------------------------------------------------------------------------------------------

  stands : Stands s new (λ u. false) (λ u. false) (λ u. u)
  stands = stands_first s new new_derived k.fresh

  fit : IsFit s new h hs heads gs s.nest (λ u. false) (λ u. u)
  fit = record { named = l.named; loops = l.loops; kept = kept; follows = l.follows; place = k.stand.1 }

  pub follows_after : AllFollow (s.derived ++ new) tree (λ u. false) (λ u. u)
  follows_after = follows_cut s new l.derived h hs heads gs exchanges s.nest (λ u. false) (λ u. u) stands fit

  pub guards_after : HaveGuards (s.derived ++ new) tree (λ u. false) (λ u. u)
  guards_after = guards_cut s new l.derived h hs heads gs exchanges s.nest (λ u. false) (λ u. u) stands fit (covers_none new) l.guards

  pub kernels_after : (is_kernel_leaf tree ≡ false) × HaveKernels (s.derived ++ new) tree (λ u. false) (λ u. u)
  kernels_after = (
    kernel_cut h hs heads gs s.nest (λ u. false) begins ∙ l.kernels.0,
    kernels_cut s new l.derived h hs heads gs exchanges s.nest (λ u. false) (λ u. u) stands fit l.kernels.1,
  )

  -- Distributed and communicate loops, workspaces ---------------------------------------------------------------------

  pub distributed_after : AreDistributed s.distributed tree
  distributed_after = distributed_cut h hs heads gs s.distributed s.nest (λ u. false) begins k.free.0.0 l.distributed

  same_accesses : accesses_of tree ≡ accesses_of s.nest
  same_accesses = accesses_cut (h ∷ hs) heads gs s.nest

  pub communicated_after : AreCommunicated after
  communicated_after = record {
    loops =
        all_map (λ (m : Moved). (is_head (h ∷ hs) m.at ≡ false) × IsCommunicate s.distributed m.at s.nest) (λ m. IsCommunicate s.distributed m.at tree)
        (λ m p. communicate_cut h hs heads gs m.at p.0 s.distributed s.nest (λ u. false) begins k.free.0.0 p.1) s.moved
        (all_and (λ (m : Moved). is_head (h ∷ hs) m.at ≡ false) (λ m. IsCommunicate s.distributed m.at s.nest) s.moved
        (moved_stay s.moved (h ∷ hs) (all_map (λ (x : Head). (is_among s.distributed x.var s.nest ≡ false) × (list_any (λ (m : Moved). nat_eq m.at x.var) s.moved ≡ false)) (λ x. list_any (λ (m : Moved). nat_eq m.at x.var) s.moved ≡ false) (λ x p. p.1) (h ∷ hs) k.free))
        l.communicated.loops);
    accessed =
        all_map (λ (m : Moved). (m.tensor < length s.tensors) × (list_any (λ (a : Access). nat_eq a.tensor m.tensor) (accesses_of s.nest) ≡ true))
        (λ m. (m.tensor < length s.tensors) × (list_any (λ (a : Access). nat_eq a.tensor m.tensor) (accesses_of tree) ≡ true))
        (λ m p. (p.0, ap (list_any (λ (a : Access). nat_eq a.tensor m.tensor)) same_accesses ∙ p.1)) s.moved l.communicated.accessed;
    once = l.communicated.once;
  }

  pub works_after : AreWorks after
  works_after = record {
    once = λ w lt. sym (nodes_bare w tree) ∙ ap (nodes_with w) same ∙ nodes_bare w s.nest ∙ l.works.once w lt;
    leaves = sym (leaves_bare tree) ∙ ap leaf_count same ∙ leaves_bare s.nest ∙ l.works.leaves;
    stand =
        bare_stand (length s.tensors) tree [] []
        (subst (λ (t : Tree). WorksStand (length s.tensors) t [] []) (sym same) (stand_bare (length s.tensors) s.nest [] [] l.works.stand));
    written = bare_written (length s.tensors) tree (subst (WritesWorks (length s.tensors)) (sym same) (written_bare (length s.tensors) s.nest l.works.written));
    small = l.works.small;
    accesses =
        subst (λ (xs : List Access). AllByRecursion (WorkAccess after) xs) (sym same_accesses)
        (work_access_more s after (extends_cut s this l.names) refl (accesses_of s.nest) (named_accesses s s.nest l.named) l.works.accesses);
  }
    where
      same : bare tree ≡ bare s.nest
      same = bare_cut (h ∷ hs) heads gs s.nest

  pub lawful_after : length s.names + length this.names < 2 ^ 32 → IsLawful after
  lawful_after few = record {
    few = few_after;
    differ = differ_after;
    names = names_cut s this l.names k few;
    named = named_after;
    walks = walks_cut (h ∷ hs) heads gs s.nest l.walks;
    coordinates = subst (λ (xs : List Access). AllByRecursion (λ d. CoordinateAppears xs d.var d.how) (s.derived ++ new)) (sym same_accesses)
        (all_append (λ (d : Derived). CoordinateAppears (accesses_of s.nest) d.var d.how) s.derived new l.coordinates k.coordinates);
    derived = derived_cut s this l k;
    ordered = ordered_after;
    loops = loops_after;
    follows = follows_after;
    guards = guards_after;
    distributed = distributed_after;
    communicated = communicated_after;
    kernels = kernels_after;
    works = works_after;
  }

-- Where none goes -----------------------------------------------------------------------------------------------------

lawful_kept : (s : Schedule) (heads : List Head) (gs : List ℕ) (new : List Derived) (names : List (List ℕ)) (extents : List ℕ) → IsLawful s → IsCut s (cut_of [] heads gs new names extents) → length s.names + length names < 2 ^ 32 → IsLawful (cut_by (cut_of [] heads gs new names extents) s)
lawful_kept s heads gs new names extents l k few = record {
  few = l.few;
  differ = l.differ;
  names = names_cut s (cut_of [] heads gs new names extents) l.names k few;
  named = named_more s (cut_by (cut_of [] heads gs new names extents) s) more s.nest l.named;
  walks = l.walks;
  coordinates = subst (λ (ds : List Derived). AllByRecursion (λ d. CoordinateAppears (accesses_of s.nest) d.var d.how) ds) same l.coordinates;
  derived = derived_cut s (cut_of [] heads gs new names extents) l k;
  ordered = subst AreOrdered same l.ordered;
  loops = subst (λ (ds : List Derived). AreLoops ds s.nest) same l.loops;
  follows = subst (λ (ds : List Derived). AllFollow ds s.nest (λ u. false) (λ u. u)) same l.follows;
  guards = subst (λ (ds : List Derived). HaveGuards ds s.nest (λ u. false) (λ u. u)) same l.guards;
  distributed = l.distributed;
  communicated = record { loops = l.communicated.loops; accessed = l.communicated.accessed; once = l.communicated.once };
  kernels = (l.kernels.0, subst (λ (ds : List Derived). HaveKernels ds s.nest (λ u. false) (λ u. u)) same l.kernels.1);
  works = record {
    once = l.works.once;
    leaves = l.works.leaves;
    stand = l.works.stand;
    written = l.works.written;
    small = l.works.small;
    accesses = work_access_more s (cut_by (cut_of [] heads gs new names extents) s) more refl (accesses_of s.nest) (named_accesses s s.nest l.named) l.works.accesses;
  };
}
  where
    more : Extends s (cut_by (cut_of [] heads gs new names extents) s)
    more = extends_cut s (cut_of [] heads gs new names extents) l.names

    same : s.derived ≡ s.derived ++ new
    same = sym (ap (λ (ds : List Derived). s.derived ++ ds) k.stand.2 ∙ append-nil s.derived)

lawful_of : (s : Schedule) (old heads : List Head) (gs : List ℕ) (new : List Derived) (names : List (List ℕ)) (extents : List ℕ) → IsLawful s → IsCut s (cut_of old heads gs new names extents) → length s.names + length names < 2 ^ 32 → IsLawful (cut_by (cut_of old heads gs new names extents) s)
lawful_of s [] heads gs new names extents l k few = lawful_kept s heads gs new names extents l k few
lawful_of s (h ∷ hs) heads gs new names extents l k few = lawful_after s h hs heads gs new names extents l k few

-- the schedule after a cut is lawful, if its names can be numbered
pub cut_lawful : (s : Schedule) (c : Cut) → IsLawful s → IsCut s c → length s.names + length c.names < 2 ^ 32 → IsLawful (cut_by c s)
cut_lawful s c l k few = lawful_of s c.old c.heads c.guards c.derived c.names c.extents l k few
