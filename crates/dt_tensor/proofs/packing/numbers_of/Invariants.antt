use Rattle.std.proofs.Common.{◌≡◌, take}
use Rattle.dt_model.specs.Shape.{dims}
use Rattle.dt_tensor.specs.Packing.{numbers_given}
use Rattle.dt_tensor.proofs.packing.numbers_of.Given as goal

abbrev pub invariant-loop-entry : goal.invariant-loop-entry
invariant-loop-entry l = l.numbers.items ≡ numbers_given (dims l.shape) (take l.entry-index l.entries)
