-- What a statement means: the number that it gives at an index, and the tensors after it.
use Rattle.std.specs.Prelude.{ℕ, ◌*◌, ◌-◌, ◌^◌, ◌%◌, List, ◌++◌, length, drop, map, Bool, if◌then◌else◌, unwrap_or, slice_get, slice_set, slice_index, sum_by, option_map, fold}
use Rattle.std.specs.Option.{option_and_then}
use Rattle.dt_base.specs.Ranges.{assignments}
use Rattle.dt_base.specs.Rows.{product}
use Rattle.dt_model.specs.Ring.{ring_add}
use Rattle.dt_model.specs.WholeTensor.{WholeTensor, number_at}
use Rattle.dt_model.specs.declared.stmt.Access.{Access}
use Rattle.dt_model.specs.declared.stmt.Factor.{Factor}
use Rattle.dt_model.specs.declared.stmt.Factor.TheVariants.{Read, Literal}
use Rattle.dt_model.specs.declared.stmt.Stmt.{Stmt}

-- the coordinates of an access where the variables have these numbers
abbrev pub coordinates : List ℕ → List ℕ → List ℕ
coordinates env vars = map (λ v. slice_index env v) vars

-- the number of a tensor at these coordinates, and 0 where there is none
abbrev pub access_value : List WholeTensor → List ℕ → Access → ℕ
access_value tensors env a = unwrap_or (option_and_then (λ t. number_at t (coordinates env a.vars)) (slice_get tensors a.tensor)) 0

-- a literal, or the number of a tensor
abbrev pub factor_value : List WholeTensor → List ℕ → Factor → ℕ
factor_value tensors env (Literal n) = n
factor_value tensors env (Read a) = access_value tensors env a

-- the product of the factors
abbrev pub term_value : List WholeTensor → List ℕ → List Factor → ℕ
term_value tensors env factors = product (map (factor_value tensors env) factors)

-- 1, or the number that stands for -1
abbrev pub sign : Bool → ℕ
sign minus = if minus then 2 ^ 64 - 1 else 1

-- the sum over all assignments of the reduction variables of the product of the factors
abbrev pub term_sum : List WholeTensor → List ℕ → List ℕ → List Factor → ℕ
term_sum tensors reduced c factors = sum_by (λ a. term_value tensors (c ++ a) factors) (assignments reduced)

-- The signed sum over the terms, modulo 2 ^ 64. The variables of the left side come first, and have the numbers c.
abbrev pub value_of : Stmt → List WholeTensor → List ℕ → ℕ
value_of s tensors c = sum_by (λ t. sign t.minus * term_sum tensors (drop (length c) s.extents) c t.factors) s.terms % 2 ^ 64

-- the number at an index of the left tensor after the statement
abbrev pub number_after : Stmt → List WholeTensor → WholeTensor → List ℕ → ℕ
number_after s tensors left c = if s.adds then ring_add (unwrap_or (number_at left c) 0) (value_of s tensors c) else value_of s tensors c

-- the left tensor after the statement
abbrev pub left_after : Stmt → List WholeTensor → WholeTensor → WholeTensor
left_after s tensors left = record { extents = left.extents; values = map (number_after s tensors left) (assignments left.extents) }

-- the tensors after a statement: all but the left one stay
abbrev pub tensors_after : Stmt → List WholeTensor → List WholeTensor
tensors_after s tensors = unwrap_or (option_map (λ left. slice_set tensors s.lhs.tensor (left_after s tensors left)) (slice_get tensors s.lhs.tensor)) tensors

-- the tensors after statements that take effect one after another
abbrev pub final_of : List Stmt → List WholeTensor → List WholeTensor
final_of stmts tensors = fold (λ ts s. tensors_after s ts) tensors stmts
