use Rattle.std.proofs.Common.{◌≡◌, ℕ, List, length, sym, ◌∙◌, subst, ap}
use Rattle.dt_base.specs.Rows.{product}
use Rattle.dt_base.proofs.Assignments.{length-assignments}
use Rattle.dt_model.specs.Positions.{StoredTensor}
use Rattle.dt_model.specs.Shape.{dims}
use Rattle.dt_tensor.specs.Packed.{Packed, packed_with, whole_of}
use Rattle.dt_tensor.proofs.DenseTensors.{whole_of-dense, whole_with}
use Rattle.dt_tensor.proofs.tensor.Tensor.into_whole.Goals as goal

pub from_values-requires-clause-count : goal.from_values-requires-clause-count
from_values-requires-clause-count c =
    let dense = c.is_dense.ensures.dense c.if-is_dense.true in
    let full : length c.self.inside.values.items ≡ product c.self.inside.levels.extents = c.self.invariant.full ∙ ap (λ (t : StoredTensor). length t.coords) dense ∙ length-assignments c.self.inside.levels.extents in
    full ∙ ap product (sym c.shape-shape.ensures.dims)

pub returns-then-is_dense-clause-whole : goal.returns-then-is_dense-clause-whole
returns-then-is_dense-clause-whole c =
    let dense = c.is_dense.ensures.dense c.if-is_dense.true in
    let full : length c.self.inside.values.items ≡ product c.self.inside.levels.extents = c.self.invariant.full ∙ ap (λ (t : StoredTensor). length t.coords) dense ∙ length-assignments c.self.inside.levels.extents in
    subst (λ (t : Packed). c.from_values.result ≡ whole_of t) c.self.view_is
    (c.from_values.ensures ∙ ap (λ (ns : List ℕ). whole_with ns c.self.inside.values.items) c.shape-shape.ensures.dims
    ∙ sym (whole_of-dense c.self.inside.levels.extents c.self.inside.values.items full) ∙ ap (λ (t : StoredTensor). whole_of (packed_with t c.self.inside.values.items)) (sym dense))
