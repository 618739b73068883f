use Rattle.std.proofs.Common.{◌∙◌, sym}
use Rattle.dt_model.specs.Shape.{dims}
use Rattle.dt_model.proofs.WholeFacts.{index_inside}
use Rattle.dt_model.proofs.whole.Whole.set.Goals as goal

pub bounds-as_mut_slice-number : goal.bounds-as_mut_slice-number
bounds-as_mut_slice-number c = rw c.as_mut_slice.ensures.value (index_inside (dims c.self.inside.shape) c.self.inside.values.items c.args.c.now c.in-Some.number c.self.invariant.1 (sym c.in-Some.is ∙ c.index.ensures))
