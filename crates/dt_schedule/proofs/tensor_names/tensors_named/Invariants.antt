use Rattle.std.proofs.Common.{◌≡◌, ◌+◌, ◌<◌, length, drop}
use Rattle.std.specs.List.{AllByRecursion}
use Rattle.dt_model.proofs.Fronts.{with_front}
use Rattle.dt_schedule.specs.NamesOf.{each, tensor_of}
use Rattle.dt_schedule.proofs.tensor_names.tensors_named.Given as goal

abbrev pub invariant-loop-name : goal.invariant-loop-name
invariant-loop-name l = (with_front l.tensors (each (tensor_of l.sched) (drop l.name-index l.names)) ≡ each (tensor_of l.sched) l.names) × AllByRecursion (λ t. t < length l.sched.tensors + length l.sched.works) l.tensors
