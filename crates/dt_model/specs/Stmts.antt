-- Which statements stand over which tensors.
use Rattle.std.specs.Prelude.{◌≡◌, ℕ, ◌<◌, ◌≤◌, List, [], ◌++◌, length, map, Some, All, IsSome, slice_get, slice_index, unwrap_or, ◌||◌, nat_eq, nat_lt}
use Rattle.std.specs.List.{AllPass, flat_map, list_any}
use Rattle.dt_base.specs.Ranges.{below}
use Rattle.dt_base.specs.Rows.{row_major}
use Rattle.dt_model.specs.WholeTensor.{WholeTensor}
use Rattle.dt_model.specs.declared.stmt.Access.{Access}
use Rattle.dt_model.specs.declared.stmt.Factor.{Factor}
use Rattle.dt_model.specs.declared.stmt.Factor.TheVariants.{Read, Literal}
use Rattle.dt_model.specs.declared.stmt.Term.{Term}
use Rattle.dt_model.specs.declared.stmt.Stmt.{Stmt}

-- the extents of each tensor
abbrev pub shapes_of : List WholeTensor → List (List ℕ)
shapes_of tensors = map (λ t. t.extents) tensors

-- at most four variables, each one of the first n
abbrev pub HasVariables : ℕ → Access → Type 0
HasVariables n a = (length a.vars ≤ 4) × All (λ v. v < n) a.vars

-- the variables of a factor are some of the first n
abbrev pub HasFactorVariables : ℕ → Factor → Type 0
HasFactorVariables n (Read a) = HasVariables n a
HasFactorVariables n (Literal x) = Unit {0}

-- An access over tensors of these shapes: each variable has the extent of the dimension where it stands.
pub record IsAccess (shapes : List (List ℕ)) (extents : List ℕ) (a : Access) : Type 0 where
  pub variables : HasVariables (length extents) a
  pub fits : slice_get shapes a.tensor ≡ Some (map (λ v. slice_index extents v) a.vars)

-- a literal, or an access
abbrev pub IsFactor : List (List ℕ) → List ℕ → Factor → Type 0
IsFactor shapes extents (Read a) = IsAccess shapes extents a
IsFactor shapes extents (Literal n) = Unit {0}

-- each factor is one over these tensors
abbrev pub IsTerm : List (List ℕ) → List ℕ → Term → Type 0
IsTerm shapes extents t = All (IsFactor shapes extents) t.factors

-- A statement over tensors of these shapes. Its variables are numbered by first occurrence, the left side first, where they differ.
pub record IsStmt (shapes : List (List ℕ)) (s : Stmt) : Type 0 where
  pub few : length s.extents ≤ 8
  pub left : s.lhs.vars ≡ below (length s.lhs.vars)
  pub target : IsAccess shapes s.extents s.lhs
  pub terms : All (IsTerm shapes s.extents) s.terms

-- the variables of a factor, where they stand
abbrev pub factor_vars : Factor → List ℕ
factor_vars (Read a) = a.vars
factor_vars (Literal n) = []

-- the variables of a term, where they stand
abbrev pub term_vars : Term → List ℕ
term_vars t = flat_map factor_vars t.factors

-- the variables of a statement, where they stand
abbrev pub stmt_vars : Stmt → List ℕ
stmt_vars s = s.lhs.vars ++ flat_map term_vars s.terms

-- each variable stands in some access
abbrev pub AreUsed : Stmt → Type 0
AreUsed s = AllPass (λ v. list_any (nat_eq v) (stmt_vars s)) (below (length s.extents))

-- each term has each reduction variable
abbrev pub AreEven : Stmt → Type 0
AreEven s = All (λ t. AllPass (λ v. nat_lt v (length s.lhs.vars) || list_any (nat_eq v) (term_vars t)) (below (length s.extents))) s.terms

-- c is an index of the statement's left tensor
abbrev pub IsIndex : List (List ℕ) → Stmt → List ℕ → Type 0
IsIndex shapes s c = IsSome (row_major (unwrap_or (slice_get shapes s.lhs.tensor) []) c)
