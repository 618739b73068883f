use Rattle.std.proofs.Common.{◌≡◌, map, take}
use Rattle.std.specs.List.{AllByRecursion}
use Rattle.dt_tensor.specs.Packed.{IsPacked}
use Rattle.dt_tests.proofs.statements.wholes.Given as goal

abbrev pub invariant-loop-tensor : goal.invariant-loop-tensor
invariant-loop-tensor l = record {
  shapes : map (λ w. w.extents) l.wholes.items ≡ map (λ t. t.extents) (take l.tensor-index l.tensors);
  packed : AllByRecursion IsPacked (take l.tensor-index l.tensors);
}
