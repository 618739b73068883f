use Rattle.std.proofs.Common.{◌≡◌, refl, subst}
use Rattle.dt_model.specs.Positions.{StoredTensor, IsStored}
use Rattle.dt_tensor.specs.Packed.{dense_levels}
use Rattle.dt_tensor.proofs.DenseTensors.{IsStored-dense}
use Rattle.dt_tensor.proofs.dense.DenseLevels.shape.Goals as goal

pub returns-clause-stored : goal.returns-clause-stored
returns-clause-stored c = subst IsStored c.self.view_is (IsStored-dense c.self.inside.shape c.self.invariant)

pub returns-clause-dense : goal.returns-clause-dense
returns-clause-dense c = subst (λ (t : StoredTensor). t ≡ dense_levels t.extents) c.self.view_is refl
