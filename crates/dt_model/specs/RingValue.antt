-- The value of a statement, with sums and products in the ring at every step.
use Rattle.std.specs.Prelude.{◌≡◌, ℕ, List, ◌++◌, length, drop}
use Rattle.dt_base.specs.Ranges.{assignments}
use Rattle.dt_model.specs.Ring.{ring_sum_by, ring_product_by, ring_signed}
use Rattle.dt_model.specs.WholeTensor.{WholeTensor}
use Rattle.dt_model.specs.Value.{factor_value, value_of}
use Rattle.dt_model.specs.declared.stmt.Stmt.{Stmt}

-- the signed sum over the terms, each the sum over all assignments of the reduction variables of the product of the factors
abbrev pub ring_value_of : Stmt → List WholeTensor → List ℕ → ℕ
ring_value_of s tensors c =
    ring_sum_by (λ t. ring_signed t.minus (ring_sum_by (λ a. ring_product_by (factor_value tensors (c ++ a)) t.factors) (assignments (drop (length c) s.extents)))) s.terms

-- one sum of exact products modulo 2 ^ 64 at its end is the ring's sum
abbrev pub ValueIsARingSum : Type 0
ValueIsARingSum = (s : Stmt) (tensors : List WholeTensor) (c : List ℕ) → value_of s tensors c ≡ ring_value_of s tensors c
