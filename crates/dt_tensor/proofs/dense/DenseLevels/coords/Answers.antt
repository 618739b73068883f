use Rattle.std.proofs.Common.{◌<◌, length, subst, sym}
use Rattle.dt_model.specs.Positions.{StoredTensor}
use Rattle.dt_model.specs.Shape.{dims}
use Rattle.dt_tensor.proofs.DenseTensors.{position-within}
use Rattle.dt_tensor.proofs.dense.DenseLevels.coords.Goals as goal

pub coordinates-all-requires-clause-within : goal.coordinates-all-requires-clause-within
coordinates-all-requires-clause-within c =
    position-within (dims c.self.inside.shape) c.args.pos (subst (λ (t : StoredTensor). c.args.pos < length t.coords) (sym c.self.view_is) c.requires)
