-- Rows of a tensor's numbers, put together.
use Rattle.std.proofs.Common.{◌≡◌, ℕ, zero, suc, ◌+◌, ◌*◌, ◌/◌, ◌<◌, ◌≤◌, List, ◌++◌, codes, length, ap, ◌∙◌, sym, arith, append_assoc, Bool, if◌then◌else◌}
use Rattle.std.specs.List.{AllByRecursion}
use Rattle.std.proofs.lemmas.Nat.{row_fits}
use Rattle.std.proofs.Math.Nat.{div-eq_of_eq-mul_left, div-mul-le_self}
use Rattle.dt_base.specs.Rows.{product}
use Rattle.dt_base.proofs.Rows.{product-positive}
use Rattle.dt_tensor.specs.Packed.{dense_tensor}
use Rattle.dt_refusal.specs.Refusals.{line_end}
use Rattle.dt_run.specs.TensorText.{cut_text, front_extents, positions_text, row_length, rows_text, shape_text, tensor_text}
use Rattle.dt_job.proofs.JobTensorFacts.{dense_levels_are}
use Rattle.dt_run.proofs.CutRows.{cut_rows, last_is, rows_whole}

-- the rows have all numbers
rows_all : (ns : List ℕ) → product ns ≡ product (front_extents ns) * row_length ns
rows_all ns = rows_whole ns ∙ ap (λ (n : ℕ). product (front_extents ns) * n) (sym (last_is ns))

second_positive : (p a b : ℕ) → p ≡ a * b → 1 ≤ p → 0 < b
second_positive p a zero e h = omega arith
second_positive p a (suc b) e h = omega arith

-- extents that are not 0 have rows that are not empty
pub row_positive : (ns : List ℕ) → AllByRecursion (λ n. 1 ≤ n) ns → 0 < row_length ns
row_positive ns h = second_positive (product ns) (product (front_extents ns)) (row_length ns) (rows_all ns) (product-positive ns h)

-- how many rows the numbers fill
rows_are : (ns values : List ℕ) → AllByRecursion (λ n. 1 ≤ n) ns → length values ≡ product ns → length values / row_length ns ≡ product (front_extents ns)
rows_are ns values h e = div-eq_of_eq-mul_left (row_positive ns h) (e ∙ rows_all ns)

-- a row below the last stands within the numbers
pub row_within : (count n r : ℕ) → r < count / n → r * n + n ≤ count
row_within count n r h = omega (arith, row_fits r n (count / n) n h (omega arith), div-mul-le_self count n)

-- the line of the name and the shape, and then the rows
pub tensor_whole : (name ns values old mid new : List ℕ) → AllByRecursion (λ n. 1 ≤ n) ns → length values ≡ product ns
    → mid ≡ old ++ (codes "tensor " ++ name ++ codes " " ++ shape_text ns ++ line_end) → new ≡ mid ++ cut_text (length values / row_length ns) (row_length ns) values
    → new ≡ old ++ tensor_text name (dense_tensor ns values)
tensor_whole name ns values old mid new h whole e q =
    let rows : cut_text (length values / row_length ns) (row_length ns) values ≡ cut_text (product (front_extents ns)) (row_length ns) values =
    ap (λ (k : ℕ). cut_text k (row_length ns) values) (rows_are ns values h whole) in
    q ∙ ap (λ (l : List ℕ). l ++ cut_text (length values / row_length ns) (row_length ns) values) e
    ∙ ap (λ (l : List ℕ). (old ++ (codes "tensor " ++ name ++ codes " " ++ shape_text ns ++ line_end)) ++ l)
    (rows ∙ sym (cut_rows ns values whole) ∙ ap (λ (b : Bool). if b then rows_text (dense_tensor ns values) else positions_text (dense_tensor ns values)) (sym (dense_levels_are (length ns))))
    ∙ append_assoc old (codes "tensor " ++ name ++ codes " " ++ shape_text ns ++ line_end) _
