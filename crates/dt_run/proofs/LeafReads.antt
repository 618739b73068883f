-- What a leaf over whole tensors reads and writes is there.
use Rattle.std.proofs.Common.{◌≡◌, ℕ, ◌+◌, ◌*◌, ◌<◌, Bool, true, false, cond, List, [], ◌∷◌, map, Option, Some, None, IsSome, option_map, refl, sym, subst, arith}
use Rattle.std.specs.Prelude.{nat_lt, slice_index}
use Rattle.std.specs.List.{AllByRecursion}
use Rattle.std.proofs.lemmas.Bool.{lt-ltb}
use Rattle.dt_base.specs.Rows.{product, row_major}
use Rattle.dt_model.specs.declared.stmt.Term.{Term}
use Rattle.dt_nest.specs.Tree.{read_accesses}
use Rattle.dt_nest.specs.Schedule.{Schedule}
use Rattle.dt_nest.specs.Meaning.{Env}
use Rattle.dt_nest.specs.Run.{Run}
use Rattle.dt_nest.specs.Point.{ArePointValues, HasValueAt, env_at}
use Rattle.dt_nest.specs.Visits.{LeafNode}
use Rattle.dt_nest.proofs.Each.{all_map, all_of}
use Rattle.dt_leaf.specs.AtVisit.{AreCoordinates, AreReadable, IsShort}
use Rattle.dt_run.specs.Visiting.{IsAccessOver, IsLeafOver}

-- Coordinates ------------------------------------------------------------------------------------------------------------

in_row : (b : Bool) (g : ℕ → ℕ) (r : Option ℕ) → b ≡ true → IsSome r → IsSome (cond b (option_map g r) None)
in_row true g None e h = cc
in_row true g (Some x) e h = refl
in_row false g r e h = cc

-- values below their extents are an index
index_inside : (extents : List ℕ) (env : Env) (vars : List ℕ) → AllByRecursion (λ u. env u < slice_index extents u) vars → IsSome (row_major (map (slice_index extents) vars) (map env vars))
index_inside extents env [] h = refl
index_inside extents env (u ∷ vars) h =
    in_row (nat_lt (env u) (slice_index extents u)) (λ k. env u * product (map (slice_index extents) vars) + k) (row_major (map (slice_index extents) vars) (map env vars)) (lt-ltb (env u) (slice_index extents u) h.0)
    (index_inside extents env vars h.1)

-- so are those of variables at a visit
pub index_at : (r : Run) (lane : Option ℕ) (values : List (Option ℕ)) (vars : List ℕ) → lane ≡ None → ArePointValues r lane values → AreCoordinates r None vars
    → IsSome (row_major (map (slice_index r.sched.extents) vars) (map (env_at r None) vars))
index_at r lane values vars e p a =
    let q : ArePointValues r None values = subst (λ (o : Option ℕ). ArePointValues r o values) e p in
    index_inside r.sched.extents (env_at r None) vars (all_map (HasValueAt r None) (λ u. env_at r None u < slice_index r.sched.extents u) (λ u h. q.below u h) vars (all_of (HasValueAt r None) vars a.valued))

-- Reads ------------------------------------------------------------------------------------------------------------------

-- an access over tensors is short
pub short_reads : (shapes : List (List ℕ)) (s : Schedule) (leaf : LeafNode) (terms : List Term) → terms ≡ leaf.terms → IsLeafOver shapes s leaf → AllByRecursion IsShort (read_accesses terms)
short_reads shapes s leaf terms e h =
    subst (λ (ts : List Term). AllByRecursion IsShort (read_accesses ts)) (sym e)
    (all_map (IsAccessOver shapes s.extents) IsShort (λ a k. (let f = k.few in omega (arith, f))) (read_accesses leaf.terms) h.accesses.1)

all_units : {X : Type 0} (xs : List X) → AllByRecursion (λ x. Unit {0}) xs
all_units [] = tt
all_units (x ∷ xs) = (tt, all_units xs)

-- what can always be read can be read by each access
pub always_readable : (terms : List Term) (envs : List Env) → AllByRecursion (AreReadable (λ t c. Unit {0}) terms) envs
always_readable terms [] = tt
always_readable terms (v ∷ vs) = (all_units (read_accesses terms), always_readable terms vs)
