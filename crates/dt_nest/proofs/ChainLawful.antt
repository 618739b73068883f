-- The schedule that a statement starts with is lawful.
use Rattle.std.proofs.Common.{◌≡◌, ℕ, suc, ◌+◌, ◌<◌, ◌≤◌, Bool, true, false, ◌||◌, List, [], ◌∷◌, ◌++◌, length, Some, refl, sym, ap, ◌∙◌, subst, arith, append_assoc, append-nil, length-append}
use Rattle.std.specs.Prelude.{if◌then◌else◌, nat_eq, slice_index, slice_get}
use Rattle.std.specs.List.{AllByRecursion, IsDistinct}
use Rattle.std.specs.Str.{bytes_eq}
use Rattle.std.proofs.lemmas.Bool.{eqb-true, eqb-false, ne_eqb, lt-ltb}
use Rattle.dt_model.specs.declared.stmt.Access.{Access}
use Rattle.dt_model.specs.declared.stmt.Term.{Term}
use Rattle.dt_model.specs.declared.stmt.Stmt.{Stmt}
use Rattle.dt_nest.specs.declared.loops.Kernel.TheVariants.{Plain}
use Rattle.dt_nest.specs.declared.parts.Work.{Work}
use Rattle.dt_nest.proofs.Each.{all_map}
use Rattle.dt_nest.specs.Tree.{Tree, Leaf, loop_count, leaf_count, times, is_kernel_leaf, read_accesses, accesses_of}
use Rattle.dt_nest.specs.Outputs.{WritesWorks}
use Rattle.dt_nest.specs.Schedule.{Schedule}
use Rattle.dt_nest.specs.Lawful.{AccessBelow, IsNamed, WalksAppear, AreLoops, Loops, also, AllFollow, HaveGuards, IsSubstituted, HaveKernels, IsOneOf, WorksStand, WorkAccess, IsLawful}
use Rattle.dt_nest.specs.Chain.{chain, stmt_schedule, IsAccessOf, IsSchedulable}

-- the number of loops of a chain around a leaf
loop_count-chain : (v : ℕ) (ns : List ℕ) (lhs : Access) (terms : List Term) → loop_count (chain v ns (Leaf lhs terms [] Plain)) ≡ length ns
loop_count-chain v [] lhs terms = refl
loop_count-chain v (n ∷ ns) lhs terms = let e = loop_count-chain (suc v) ns lhs terms in omega arith

leaf_count-chain : (v : ℕ) (ns : List ℕ) (lhs : Access) (terms : List Term) → leaf_count (chain v ns (Leaf lhs terms [] Plain)) ≡ 1
leaf_count-chain v [] lhs terms = refl
leaf_count-chain v (n ∷ ns) lhs terms = leaf_count-chain (suc v) ns lhs terms

-- loops around a tree add no access
pub accesses-chain : (v : ℕ) (ns : List ℕ) (tree : Tree) → accesses_of (chain v ns tree) ≡ accesses_of tree
accesses-chain v [] tree = refl
accesses-chain v (n ∷ ns) tree = accesses-chain (suc v) ns tree

-- a variable before the chain's first is no loop of it
times-before : (u v : ℕ) (ns : List ℕ) (lhs : Access) (terms : List Term) → u < v → times u (chain v ns (Leaf lhs terms [] Plain)) ≡ 0
times-before u v [] lhs terms h = refl
times-before u v (n ∷ ns) lhs terms h =
    let e = times-before u (suc v) ns lhs terms (omega arith) in
    let t : nat_eq v u ≡ false = ne_eqb v u (λ p. omega arith) in
    rw (t, e) (omega arith)

-- each variable is at most one loop
times-chain : (u v : ℕ) (ns : List ℕ) (lhs : Access) (terms : List Term) → times u (chain v ns (Leaf lhs terms [] Plain)) ≤ 1
times-chain u v [] lhs terms = omega arith
times-chain u v (n ∷ ns) lhs terms =
    go (nat_eq v u) (eqb-true v u) (times-chain u (suc v) ns lhs terms) (λ e. times-before u (suc v) ns lhs terms (omega arith))
  where
    go : (b : Bool) → (b ≡ true → v ≡ u) → times u (chain (suc v) ns (Leaf lhs terms [] Plain)) ≤ 1 → (v ≡ u → times u (chain (suc v) ns (Leaf lhs terms [] Plain)) ≡ 0)
        → (if b then 1 else 0) + times u (chain (suc v) ns (Leaf lhs terms [] Plain)) ≤ 1
    go true e le z = let k = z (e refl) in omega arith
    go false e le z = omega arith

access_below : (k n : ℕ) (a : Access) → IsAccessOf k n a → AccessBelow k (n + 0) a
access_below k n a h = (omega (arith, h.0), omega (arith, h.1), h.2)

index_at : (before : List ℕ) (n : ℕ) (ns : List ℕ) → slice_index (before ++ n ∷ ns) (length before) ≡ n
index_at [] n ns = refl
index_at (x ∷ before) n ns = index_at before n ns

-- the loops of a chain have the extents of their variables
named_chain : (s : Schedule) (before ns : List ℕ) (lhs : Access) (terms : List Term) → before ++ ns ≡ s.extents → length s.extents ≡ length s.names
    → AllByRecursion (AccessBelow (length s.names) (length s.tensors + length s.works)) (lhs ∷ read_accesses terms)
    → IsNamed s (chain (length before) ns (Leaf lhs terms [] Plain))
named_chain s before [] lhs terms e k all = (all, tt)
named_chain s before (n ∷ ns) lhs terms e k all =
    let total : length (before ++ n ∷ ns) ≡ length before + suc (length ns) = length-append before (n ∷ ns) in
    let whole : length (before ++ n ∷ ns) ≡ length s.extents = ap length e in
    let more : suc (length before) ≡ length (before ++ n ∷ []) = sym (length-append before (n ∷ []) ∙ omega arith) in
    let rest = named_chain s (before ++ n ∷ []) ns lhs terms (append_assoc before (n ∷ []) ns ∙ e) k all in
    (omega arith, ap (λ (l : List ℕ). slice_index l (length before)) (sym e) ∙ index_at before n ns, tt, subst (λ (m : ℕ). IsNamed s (chain m ns (Leaf lhs terms [] Plain))) (sym more) rest)

-- no loop of a chain is walked
walks_chain : (v : ℕ) (ns : List ℕ) (lhs : Access) (terms : List Term) → WalksAppear (chain v ns (Leaf lhs terms [] Plain))
walks_chain v [] lhs terms = tt
walks_chain v (n ∷ ns) lhs terms = (tt, walks_chain (suc v) ns lhs terms)

loops_chain : (v : ℕ) (ns : List ℕ) (lhs : Access) (terms : List Term) → AreLoops [] (chain v ns (Leaf lhs terms [] Plain))
loops_chain v [] lhs terms = tt
loops_chain v (n ∷ ns) lhs terms = (refl, loops_chain (suc v) ns lhs terms)

-- the variables before the chain are around it, the others are not
abbrev pub AreAround : Loops → ℕ → Type 0
AreAround around v = ((u : ℕ) → u < v → around u ≡ true) × ((u : ℕ) → v ≤ u → around u ≡ false)

around_more : (around : Loops) (v : ℕ) → AreAround around v → AreAround (also around v) (suc v)
around_more around v h = (
  (λ u lt. inside (nat_eq u v) (eqb-false u v) (λ ne. h.0 u (omega (arith, ne)))),
  (λ u le. let t : nat_eq u v ≡ false = ne_eqb u v (λ p. omega arith) in rw t (h.1 u (omega arith))),
)
  where
    inside : {u : ℕ} (b : Bool) → (b ≡ false → u ≡ v → ⊥) → ((u ≡ v → ⊥) → around u ≡ true) → (b || around u) ≡ true
    inside true ne r = refl
    inside false ne r = r (ne refl)

-- each variable of the leaf is a loop around it
follows_chain : (v k : ℕ) (ns : List ℕ) (lhs : Access) (terms : List Term) (around : Loops) → AreAround around v → v + length ns ≡ k
    → AllByRecursion (λ a. AllByRecursion (λ u. u < k) a.vars) (lhs ∷ read_accesses terms)
    → AllFollow [] (chain v ns (Leaf lhs terms [] Plain)) around (λ u. u)
follows_chain v k [] lhs terms around h e all =
    (all_map (λ a. AllByRecursion (λ u. u < k) a.vars) (λ a. AllByRecursion (λ u. around u ≡ true) a.vars) (λ a. all_map (λ u. u < k) (λ u. around u ≡ true) (λ u lt. h.0 u (omega arith)) a.vars) (lhs ∷ read_accesses terms) all, tt)
follows_chain v k (n ∷ ns) lhs terms around h e all =
    (h.1 v (omega arith), refl, tt, follows_chain (suc v) k ns lhs terms (also around v) (around_more around v h) (omega arith) all)

guards_chain : (v : ℕ) (ns : List ℕ) (lhs : Access) (terms : List Term) (around : Loops) → HaveGuards [] (chain v ns (Leaf lhs terms [] Plain)) around (λ u. u)
guards_chain v [] lhs terms around = tt
guards_chain v (n ∷ ns) lhs terms around = guards_chain (suc v) ns lhs terms (also around v)

no_kernel : (v : ℕ) (ns : List ℕ) (lhs : Access) (terms : List Term) → is_kernel_leaf (chain v ns (Leaf lhs terms [] Plain)) ≡ false
no_kernel v [] lhs terms = refl
no_kernel v (n ∷ ns) lhs terms = refl

substituted_chain : (v : ℕ) (ns : List ℕ) (lhs : Access) (terms : List Term) (around : Loops) → IsSubstituted [] (chain v ns (Leaf lhs terms [] Plain)) around (λ u. u)
substituted_chain v [] lhs terms around = tt
substituted_chain v (n ∷ ns) lhs terms around = tt

kernels_chain : (v : ℕ) (ns : List ℕ) (lhs : Access) (terms : List Term) (around : Loops) → HaveKernels [] (chain v ns (Leaf lhs terms [] Plain)) around (λ u. u)
kernels_chain v [] lhs terms around = tt
kernels_chain v (n ∷ ns) lhs terms around = (substituted_chain (suc v) ns lhs terms around, kernels_chain (suc v) ns lhs terms (also around v))

one_of : (k n : ℕ) (a : Access) → IsAccessOf k n a → IsOneOf n [] a
one_of k n a h = rw (lt-ltb a.tensor n h.0) refl

works_chain : (n v : ℕ) (ns : List ℕ) (lhs : Access) (terms : List Term) → AllByRecursion (IsOneOf n []) (lhs ∷ read_accesses terms) → WorksStand n (chain v ns (Leaf lhs terms [] Plain)) [] []
works_chain n v [] lhs terms all = (all.0, all.1)
works_chain n v (m ∷ ns) lhs terms all = works_chain n (suc v) ns lhs terms all

written_chain : (n v : ℕ) (ns : List ℕ) (lhs : Access) (terms : List Term) → WritesWorks n (chain v ns (Leaf lhs terms [] Plain))
written_chain n v [] lhs terms = tt
written_chain n v (m ∷ ns) lhs terms = written_chain n (suc v) ns lhs terms

-- without a workspace no access is one of a workspace
no_works : (s : Schedule) → s.works ≡ [] → (accesses : List Access) → AllByRecursion (WorkAccess s) accesses
no_works s e [] = tt
no_works s e (a ∷ accesses) = ((λ w x t g. none w x (ap (λ (l : List Work). slice_get l w) (sym e) ∙ g)), no_works s e accesses)
  where
    none : {T : Type 0} (w : ℕ) (x : Work) → slice_get {X = Work} [] w ≡ Some x → T
    none w x g = absurd (cc)

pub stmt_lawful : (s : Stmt) (vars tensors : List (List ℕ)) → IsSchedulable s vars tensors → IsLawful (stmt_schedule s vars tensors)
unfolding stmt_schedule IsDistinct
stmt_lawful s vars tensors h = record {
  few = let e = loop_count-chain 0 s.extents s.lhs s.terms in omega (arith, h.few);
  differ = λ u. times-chain u 0 s.extents s.lhs s.terms;
  names = record {
    loops = h.differ;
    tensors = subst (λ (l : List (List ℕ)). IsDistinct bytes_eq l) (sym (append-nil tensors)) h.tensors_differ;
    extents = sym h.named;
    few = omega (arith, h.named, h.few);
    few_tensors = omega (arith, h.few_tensors);
  };
  named = named_chain (stmt_schedule s vars tensors) [] s.extents s.lhs s.terms refl (sym h.named)
      (subst (λ (k : ℕ). AllByRecursion (AccessBelow k (length tensors + 0)) (s.lhs ∷ read_accesses s.terms)) (sym h.named) (all_map (IsAccessOf (length s.extents) (length tensors)) (AccessBelow (length s.extents) (length tensors + 0)) (access_below (length s.extents) (length tensors)) (s.lhs ∷ read_accesses s.terms) h.accesses));
  walks = walks_chain 0 s.extents s.lhs s.terms;
  coordinates = tt;
  derived = tt;
  ordered = tt;
  loops = loops_chain 0 s.extents s.lhs s.terms;
  follows = follows_chain 0 (length s.extents) s.extents s.lhs s.terms (λ u. false) ((λ u lt. absurd (omega arith)), (λ u le. refl)) (omega arith)
      (all_map (IsAccessOf (length s.extents) (length tensors)) (λ a. AllByRecursion (λ u. u < length s.extents) a.vars) (λ a k. k.2) (s.lhs ∷ read_accesses s.terms) h.accesses);
  guards = guards_chain 0 s.extents s.lhs s.terms (λ u. false);
  distributed = tt;
  communicated = record { loops = tt; accessed = tt; once = tt };
  kernels = (no_kernel 0 s.extents s.lhs s.terms, kernels_chain 0 s.extents s.lhs s.terms (λ u. false));
  works = record {
    once = λ w lt. absurd (omega arith);
    leaves = leaf_count-chain 0 s.extents s.lhs s.terms;
    written = written_chain (length tensors) 0 s.extents s.lhs s.terms;
    stand = works_chain (length tensors) 0 s.extents s.lhs s.terms (all_map (IsAccessOf (length s.extents) (length tensors)) (IsOneOf (length tensors) []) (one_of (length s.extents) (length tensors)) (s.lhs ∷ read_accesses s.terms) h.accesses);
    small = tt;
    accesses = no_works (stmt_schedule s vars tensors) refl (accesses_of (chain 0 s.extents (Leaf s.lhs s.terms [] Plain)));
  };
}
