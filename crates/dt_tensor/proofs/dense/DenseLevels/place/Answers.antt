use Rattle.std.proofs.Common.{◌≡◌, sym, ◌∙◌, subst}
use Rattle.dt_model.specs.Positions.{StoredTensor, place_in}
use Rattle.dt_model.specs.Shape.{dims}
use Rattle.dt_base.proofs.Assignments.{position-assignments}
use Rattle.dt_tensor.proofs.dense.DenseLevels.place.Goals as goal

pub returns : goal.returns
returns c = subst (λ (t : StoredTensor). c.index.result ≡ place_in t c.args.c.now) c.self.view_is (c.index.ensures ∙ sym (position-assignments (dims c.self.inside.shape) c.args.c.now))
