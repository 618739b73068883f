use Rattle.std.proofs.Common.{◌≡◌, ◌<◌, Some, sym, ◌∙◌, subst}
use Rattle.dt_base.specs.Rows.{product}
use Rattle.dt_base.proofs.Assignments.{position-assignments, row_major-assignment}
use Rattle.dt_model.specs.Positions.{StoredTensor, place_in}
use Rattle.dt_model.specs.Shape.{dims}
use Rattle.dt_tensor.specs.Packed.{index_at}
use Rattle.dt_tensor.proofs.dense.DenseLevels.position_of.Goals as goal

pub returns : goal.returns
returns c =
    subst (λ (t : StoredTensor). Some c.args.number ≡ place_in t (index_at t.extents c.args.number)) c.self.view_is
    (sym (position-assignments (dims c.self.inside.shape) (index_at (dims c.self.inside.shape) c.args.number)
    ∙ row_major-assignment (dims c.self.inside.shape) c.args.number (subst (λ (t : StoredTensor). c.args.number < product t.extents) (sym c.self.view_is) c.requires)))
