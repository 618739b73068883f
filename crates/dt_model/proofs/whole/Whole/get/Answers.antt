use Rattle.std.proofs.Common.{◌∙◌, sym}
use Rattle.dt_model.specs.Shape.{dims}
use Rattle.dt_model.proofs.WholeFacts.{index_inside, number_there}
use Rattle.dt_model.proofs.whole.Whole.get.Goals as goal

pub bounds-as_slice-number : goal.bounds-as_slice-number
bounds-as_slice-number c = rw c.as_slice.ensures.value (index_inside (dims c.self.inside.shape) c.self.inside.values.items c.args.c.now c.in-Some.number c.self.invariant.1 (sym c.in-Some.is ∙ c.index.ensures))

pub returns-in-Some-clause-number : goal.returns-in-Some-clause-number
returns-in-Some-clause-number c = rw (c.as_slice.ensures.value, ← c.self.view_is) (number_there (dims c.self.inside.shape) c.self.inside.values.items c.args.c.now c.in-Some.number c.self.invariant.1 (sym c.in-Some.is ∙ c.index.ensures))
