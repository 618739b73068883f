use Rattle.std.proofs.Common.{◌≡◌, ◌+◌, ℕ, ap, sym, subst, length}
use Rattle.dt_model.specs.Positions.{StoredTensor, cost_of}
use Rattle.dt_model.specs.Shape.{dims}
use Rattle.dt_tensor.proofs.DenseTensors.{cost-dense}
use Rattle.dt_tensor.proofs.dense.DenseLevels.cost.Goals as goal

pub returns : goal.returns
returns c = subst (λ (t : StoredTensor). 1 ≡ cost_of t) c.self.view_is (ap (λ (n : ℕ). 1 + n) (sym (cost-dense (length (dims c.self.inside.shape)))))
