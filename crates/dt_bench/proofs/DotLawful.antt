-- The parts of the schedule of a matrix times a vector are lawful.
use Rattle.std.proofs.Common.{◌≡◌, ℕ, zero, suc, ◌<◌, ◌≤◌, List, [], ◌∷◌, false, refl, sym, ap, ◌∙◌, subst, arith, lit<, lit≤}
use Rattle.std.specs.Prelude.{nat_eq}
use Rattle.std.specs.List.{IsDistinct}
use Rattle.std.proofs.lemmas.Bool.{ne_eqb}
use Rattle.dt_nest.specs.declared.derivations.Derived.{Derived}
use Rattle.dt_nest.specs.declared.parts.Moved.{Moved}
use Rattle.dt_nest.specs.declared.parts.Work.{Work}
use Rattle.dt_nest.specs.declared.parts.SchedParts.{SchedParts}
use Rattle.dt_nest.specs.Tree.{Tree, times, tree_of}
use Rattle.dt_nest.specs.Schedule.{Schedule, seen}
use Rattle.dt_nest.specs.Lawful.{HasNames, AreCommunicated, AreWorks, WorkAccess, IsLawful}
use Rattle.dt_bench.specs.DotSchedule.{at, dot_schedule}

one_each : (n u : ℕ) → times u (dot_schedule n).nest ≤ 1
one_each n zero = lit≤ tt
one_each n (suc zero) = lit≤ tt
one_each n (suc (suc u)) =
    let a : nat_eq 0 (suc (suc u)) ≡ false = ne_eqb 0 (suc (suc u)) (λ e. omega arith) in
    let b : nat_eq 1 (suc (suc u)) ≡ false = ne_eqb 1 (suc (suc u)) (λ e. omega arith) in
    rw (a, b) (lit≤ tt)

dot_names : (n : ℕ) → HasNames (dot_schedule n)
unfolding IsDistinct
dot_names n = record {
  loops = ((refl, tt), (tt, tt));
  tensors = ((refl, (refl, tt)), ((refl, tt), (tt, tt)));
  extents = refl;
  few = lit< tt;
  few_tensors = lit< tt;
}

dot_communicated : (n : ℕ) → AreCommunicated (dot_schedule n)
unfolding IsDistinct
dot_communicated n = record { loops = tt; accessed = tt; once = tt }

dot_works : (n : ℕ) → AreWorks (dot_schedule n)
dot_works n = record {
  once = λ w l. absurd (omega (arith, l));
  leaves = refl;
  stand = (refl, (refl, (refl, tt)));
  written = tt;
  small = tt;
  accesses = ((λ w x e g. absurd (omega (arith, e))), ((λ w x e g. absurd (omega (arith, e))), ((λ w x e g. absurd (omega (arith, e))), tt)));
}

dot_lawful : (n : ℕ) → IsLawful (dot_schedule n)
dot_lawful n = record {
  few = lit≤ tt;
  differ = one_each n;
  names = dot_names n;
  named = (
    lit< tt,
    refl,
    tt,
    (lit< tt, refl, tt, (((lit< tt, lit≤ tt, (lit< tt, tt)), ((lit< tt, lit≤ tt, (lit< tt, (lit< tt, tt))), ((lit< tt, lit≤ tt, (lit< tt, tt)), tt))), tt)),
  );
  walks = (tt, (tt, tt));
  coordinates = tt;
  derived = tt;
  ordered = tt;
  loops = (refl, (refl, tt));
  follows = (refl, refl, tt, (refl, refl, tt, (((refl, tt), ((refl, (refl, tt)), ((refl, tt), tt))), tt)));
  guards = tt;
  distributed = tt;
  communicated = dot_communicated n;
  kernels = (refl, (tt, ((refl, (refl, tt)), tt)));
  works = dot_works n;
}

abbrev with_parts : Tree → List Derived → ℕ → List Moved → List (List ℕ) → List (List ℕ) → List ℕ → List Work → Schedule
with_parts nest derived distributed moved tensors names extents works = record {
  nest = nest;
  derived = derived;
  distributed = distributed;
  moved = moved;
  tensors = tensors;
  names = names;
  extents = extents;
  works = works;
}

-- so are parts that are made as these are
pub made_lawful : (n : ℕ) (p : SchedParts) → tree_of p.nest ≡ (dot_schedule n).nest → p.derived ≡ [] → p.distributed ≡ 0 → p.moved ≡ [] → p.tensors ≡ (dot_schedule n).tensors → p.names ≡ (dot_schedule n).names
    → p.extents ≡ n ∷ n ∷ [] → p.works ≡ [] → IsLawful (seen p)
made_lawful n p nest derived distributed moved tensors names extents works =
    let r = dot_schedule n in
    let e : seen p ≡ dot_schedule n =
    ap (λ (x : Tree). with_parts x p.derived p.distributed p.moved p.tensors p.names p.extents p.works) nest
    ∙ ap (λ (x : List Derived). with_parts r.nest x p.distributed p.moved p.tensors p.names p.extents p.works) derived
    ∙ ap (λ (x : ℕ). with_parts r.nest [] x p.moved p.tensors p.names p.extents p.works) distributed
    ∙ ap (λ (x : List Moved). with_parts r.nest [] 0 x p.tensors p.names p.extents p.works) moved
    ∙ ap (λ (x : List (List ℕ)). with_parts r.nest [] 0 [] x p.names p.extents p.works) tensors
    ∙ ap (λ (x : List (List ℕ)). with_parts r.nest [] 0 [] r.tensors x p.extents p.works) names
    ∙ ap (λ (x : List ℕ). with_parts r.nest [] 0 [] r.tensors r.names x p.works) extents
    ∙ ap (λ (x : List Work). with_parts r.nest [] 0 [] r.tensors r.names r.extents x) works in
    subst IsLawful (sym e) (dot_lawful n)
