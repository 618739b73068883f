-- What is read where a run over visits stands.
use Rattle.std.specs.Prelude.{ℕ, ◌<◌, ◌≤◌, ◌^◌, List, ◌∷◌, length, map, All, Option, slice_index}
use Rattle.std.specs.List.{AllByRecursion}
use Rattle.dt_model.specs.declared.stmt.Access.{Access}
use Rattle.dt_model.specs.declared.stmt.Factor.{Factor}
use Rattle.dt_model.specs.declared.stmt.Factor.TheVariants.{Read, Literal}
use Rattle.dt_model.specs.declared.stmt.Term.{Term}
use Rattle.dt_nest.specs.Meaning.{Env}
use Rattle.dt_nest.specs.Tree.{read_accesses}
use Rattle.dt_nest.specs.Point.{HasValueAt, env_at}
use Rattle.dt_nest.specs.Run.{Run}
use Rattle.dt_nest.specs.Visits.{LeafVisit}

-- Variables that give coordinates at a point of a visit: at most sixteen, each with a value.
pub record AreCoordinates (r : Run) (lane : Option ℕ) (vars : List ℕ) : Type 0 where
  pub few : length vars ≤ 16
  pub valued : All (HasValueAt r lane) vars
  pub small : All (λ u. slice_index r.sched.extents u < 2 ^ 32) vars

-- whether a tensor or workspace has a number at some coordinates
abbrev pub Readable : Type 1
Readable = ℕ → List ℕ → Type 0

-- An access that can be read at a point: its variables give coordinates, where there is a number.
pub record IsReadAt (can : Readable) (r : Run) (lane : Option ℕ) (a : Access) : Type 0 where
  pub coordinates : AreCoordinates r lane a.vars
  pub there : can a.tensor (map (env_at r lane) a.vars)

-- a literal, or an access that can be read
abbrev pub IsFactorAt : Readable → Run → Option ℕ → Factor → Type 0
IsFactorAt can r lane (Read a) = IsReadAt can r lane a
IsFactorAt can r lane (Literal n) = Unit {0}

-- each factor of the term is one
abbrev pub IsTermAt : Readable → Run → Option ℕ → Term → Type 0
IsTermAt can r lane t = All (IsFactorAt can r lane) t.factors

-- each access of the terms has a number where the variables have these values
abbrev pub AreReadable : Readable → List Term → Env → Type 0
AreReadable can terms val = AllByRecursion (λ a. can a.tensor (map val a.vars)) (read_accesses terms)

-- an access has at most sixteen variables
abbrev pub IsShort : Access → Type 0
IsShort a = length a.vars ≤ 16

-- so has each access of a leaf
abbrev pub IsShortLeaf : LeafVisit → Type 0
IsShortLeaf visit = AllByRecursion IsShort (visit.leaf.lhs ∷ read_accesses visit.leaf.terms)
