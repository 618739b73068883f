use Rattle.std.proofs.Common.{◌≡◌, length, sym, ◌∙◌, subst}
use Rattle.dt_model.specs.Positions.{StoredTensor}
use Rattle.dt_model.specs.Shape.{dims}
use Rattle.dt_base.proofs.Assignments.{length-assignments}
use Rattle.dt_tensor.proofs.dense.DenseLevels.count.Goals as goal

pub returns : goal.returns
returns c = subst (λ (t : StoredTensor). c.count.result ≡ length t.coords) c.self.view_is (c.count.ensures ∙ sym (length-assignments (dims c.self.inside.shape)))
