use Rattle.std.proofs.Common.{◌≡◌, map}
use Rattle.dt_nest.specs.FitsStored.{FitsStored}
use Rattle.dt_tensor.specs.Packed.{stored_of}
use Rattle.dt_bench.proofs.paired.paired_schedule.Given as goal

abbrev pub invariant-loop-k : goal.invariant-loop-k
invariant-loop-k l = record {
  fits : FitsStored (map stored_of l.tensors) l.sched;
  names : l.names ≡ l.sched.tensors;
}
