use Rattle.std.proofs.Common.{◌≡◌, ◌++◌, length, map}
use Rattle.std.specs.Vec.Iter.{into_iter_items, into_iter_len}
use Rattle.dt_tensor.specs.Packed.{stored_of, whole_of}
use Rattle.dt_tensor.proofs.tensors.Tensors.into_wholes.Given as goal

abbrev pub invariant-loop-tensor : goal.invariant-loop-tensor
invariant-loop-tensor l = record {
  seen : l.yielded ++ into_iter_items l.tensor-iterator ≡ l.fn.self;
  left : into_iter_len l.tensor-iterator ≡ length (into_iter_items l.tensor-iterator);
  levels : l.all ≡ map stored_of l.yielded;
  wholes : l.wholes.items ≡ map whole_of l.yielded;
}
