-- The parts of the schedule that the tests visit are lawful.
use Rattle.std.proofs.Common.{◌≡◌, ℕ, zero, suc, ◌<◌, ◌≤◌, Bool, true, false, ◌||◌, List, [], ◌∷◌, refl, sym, ap, ◌∙◌, subst, arith, lit<, lit≤}
use Rattle.std.specs.Prelude.{nat_eq}
use Rattle.std.specs.List.{IsDistinct}
use Rattle.std.proofs.lemmas.Bool.{false≢true, ne_eqb}
use Rattle.dt_model.specs.declared.stmt.Access.{Access}
use Rattle.dt_nest.specs.declared.derivations.Derived.{Derived}
use Rattle.dt_nest.specs.declared.parts.Moved.{Moved}
use Rattle.dt_nest.specs.declared.parts.Work.{Work}
use Rattle.dt_nest.specs.declared.parts.SchedParts.{SchedParts}
use Rattle.dt_nest.specs.Meaning.{renamed}
use Rattle.dt_nest.specs.Tree.{Tree, times, tree_of}
use Rattle.dt_nest.specs.Schedule.{Schedule, seen}
use Rattle.dt_nest.specs.Lawful.{HasNames, AreCommunicated, AreWorks, Follows, also, WorkAccess, IsLawful}
use Rattle.dt_visit_tests.specs.RowSchedule.{at, row_tree, row_schedule}

-- no loop is there twice
one_each : (u : ℕ) → times u row_tree ≤ 1
one_each zero = lit≤ tt
one_each (suc zero) = lit≤ tt
one_each (suc (suc zero)) = lit≤ tt
one_each (suc (suc (suc zero))) = lit≤ tt
one_each (suc (suc (suc (suc zero)))) = lit≤ tt
one_each (suc (suc (suc (suc (suc zero))))) = lit≤ tt
one_each (suc (suc (suc (suc (suc (suc n)))))) =
    let u : ℕ = suc (suc (suc (suc (suc (suc n))))) in
    let a : nat_eq 0 u ≡ false = ne_eqb 0 u (λ e. omega arith) in
    let b : nat_eq 4 u ≡ false = ne_eqb 4 u (λ e. omega arith) in
    let c : nat_eq 5 u ≡ false = ne_eqb 5 u (λ e. omega arith) in
    let d : nat_eq 2 u ≡ false = ne_eqb 2 u (λ e. omega arith) in
    let f : nat_eq 3 u ≡ false = ne_eqb 3 u (λ e. omega arith) in
    rw (a, b, c, d, f) (lit≤ tt)

-- what follows from loop i has no new name in the producer
row_stays : (u : ℕ) → Follows row_schedule.derived (also (λ v. false) 0) (λ v. v) u → renamed (record { from = 2; to = 4 } ∷ record { from = 3; to = 5 } ∷ []) u ≡ u
row_stays zero h = refl
row_stays (suc zero) h = refl
row_stays (suc (suc n)) h =
    let a : nat_eq (suc (suc n)) 1 ≡ false = ne_eqb (suc (suc n)) 1 (λ e. omega arith) in
    let b : nat_eq (suc (suc n)) 0 ≡ false = ne_eqb (suc (suc n)) 0 (λ e. omega arith) in
    let k : (nat_eq (suc (suc n)) 0 || false) ≡ true = rw a at h in
    absurd (false≢true (sym (ap (λ (x : Bool). x || false) b) ∙ k))

row_names : HasNames row_schedule
unfolding IsDistinct
row_names = record {
  loops = ((refl, (refl, (refl, (refl, (refl, tt))))), ((refl, (refl, (refl, (refl, tt)))), ((refl, (refl, (refl, tt))), ((refl, (refl, tt)), ((refl, tt), (tt, tt))))));
  tensors = ((refl, (refl, (refl, tt))), ((refl, (refl, tt)), ((refl, tt), (tt, tt))));
  extents = refl;
  few = lit< tt;
  few_tensors = lit< tt;
}

row_communicated : AreCommunicated row_schedule
unfolding IsDistinct
row_communicated = record { loops = tt; accessed = tt; once = tt }

-- an access of a tensor is one of no workspace
of_tensor : (a : Access) → a.tensor < 3 → WorkAccess row_schedule a
of_tensor a h w x e g = absurd (omega (arith, h, e))

-- the workspace has the extents of jo and ji
of_work : WorkAccess row_schedule (at 3 (2 ∷ 3 ∷ []))
of_work zero x e g = ap (λ (y : Work). y.extents) (let same : x ≡ record { name = 87 ∷ []; extents = 2 ∷ 3 ∷ [] } = cc in same)
of_work (suc w) x e g = absurd (omega (arith, e))

row_works : AreWorks row_schedule
row_works = record {
  once = λ w l. let e : w ≡ 0 = omega arith in rw e refl;
  leaves = refl;
  stand = ((refl, (refl, tt)), (refl, (refl, (refl, tt))));
  written = (refl, tt, tt);
  small = (lit≤ tt, tt);
  accesses = (of_work, (of_tensor (at 1 (0 ∷ 1 ∷ [])) (lit< tt), (of_tensor (at 0 (0 ∷ [])) (lit< tt), (of_work, (of_tensor (at 2 (1 ∷ [])) (lit< tt), tt)))));
}

-- the parts are lawful
row_lawful : IsLawful row_schedule
row_lawful = record {
  few = lit≤ tt;
  differ = one_each;
  names = row_names;
  named = (
    lit< tt,
    refl,
    (lit< tt, (lit< tt, (lit< tt, tt))),
    (
      lit< tt,
      ((lit< tt, lit< tt, refl), ((lit< tt, lit< tt, refl), tt)),
      (lit< tt, refl, tt, (lit< tt, refl, tt, (((lit< tt, lit≤ tt, (lit< tt, (lit< tt, tt))), ((lit< tt, lit≤ tt, (lit< tt, (lit< tt, tt))), tt)), (lit< tt, tt)))),
      (lit< tt, refl, tt, (lit< tt, refl, tt, (((lit< tt, lit≤ tt, (lit< tt, tt)), ((lit< tt, lit≤ tt, (lit< tt, (lit< tt, tt))), ((lit< tt, lit≤ tt, (lit< tt, tt)), tt))), (lit< tt, tt)))),
    ),
  );
  walks = ((1, lit< tt, refl), ((tt, (tt, tt)), (tt, (tt, tt))));
  coordinates = (tt, tt);
  derived = ((lit< tt, (lit< tt, (lit< tt, tt)), tt), tt);
  ordered = ((refl, (refl, tt)), tt, tt);
  loops = (refl, ((refl, (refl, tt)), (refl, (refl, tt))));
  follows = (
    refl,
    refl,
    (refl, tt),
    (
      row_stays,
      (refl, refl, tt, (refl, refl, tt, (((refl, (refl, tt)), ((refl, ((refl, (refl, tt)), tt)), tt)), ((refl, (refl, tt)), tt)))),
      (refl, refl, tt, (refl, refl, tt, (((refl, tt), ((refl, (refl, tt)), (((refl, (refl, tt)), tt), tt))), ((refl, (refl, tt)), tt)))),
    ),
  );
  guards = (((λ _ _. refl), tt), ((λ _ _. refl), tt));
  distributed = tt;
  communicated = row_communicated;
  kernels = (refl, (tt, (refl, refl, (tt, (tt, tt)), (tt, ((refl, (refl, tt)), tt)))));
  works = row_works;
}

abbrev with_parts : Tree → List Derived → ℕ → List Moved → List (List ℕ) → List (List ℕ) → List ℕ → List Work → Schedule
with_parts nest derived distributed moved tensors names extents works = record {
  nest = nest;
  derived = derived;
  distributed = distributed;
  moved = moved;
  tensors = tensors;
  names = names;
  extents = extents;
  works = works;
}

-- so are parts that are made as these are
pub made_lawful : (p : SchedParts) → tree_of p.nest ≡ row_tree → p.derived ≡ row_schedule.derived → p.distributed ≡ 0 → p.moved ≡ [] → p.tensors ≡ row_schedule.tensors → p.names ≡ row_schedule.names
    → p.extents ≡ row_schedule.extents → p.works ≡ row_schedule.works → (seen p ≡ row_schedule) × IsLawful (seen p)
made_lawful p nest derived distributed moved tensors names extents works =
    let r = row_schedule in
    let e : seen p ≡ row_schedule =
    ap (λ (x : Tree). with_parts x p.derived p.distributed p.moved p.tensors p.names p.extents p.works) nest
    ∙ ap (λ (x : List Derived). with_parts r.nest x p.distributed p.moved p.tensors p.names p.extents p.works) derived
    ∙ ap (λ (x : ℕ). with_parts r.nest r.derived x p.moved p.tensors p.names p.extents p.works) distributed
    ∙ ap (λ (x : List Moved). with_parts r.nest r.derived 0 x p.tensors p.names p.extents p.works) moved
    ∙ ap (λ (x : List (List ℕ)). with_parts r.nest r.derived 0 [] x p.names p.extents p.works) tensors
    ∙ ap (λ (x : List (List ℕ)). with_parts r.nest r.derived 0 [] r.tensors x p.extents p.works) names
    ∙ ap (λ (x : List ℕ). with_parts r.nest r.derived 0 [] r.tensors r.names x p.works) extents
    ∙ ap (λ (x : List Work). with_parts r.nest r.derived 0 [] r.tensors r.names r.extents x) works in
    (e, subst IsLawful (sym e) row_lawful)
