use Rattle.std.proofs.Common.{◌≡◌}
use Rattle.std.specs.Prelude.{filter}
use Rattle.dt_base.specs.Ranges.{below}
use Rattle.dt_nest.specs.Questions.{accesses_tensor}
use Rattle.dt_plan.proofs.moved.tensors_in.Given as goal

abbrev pub invariant-loop-tensor : goal.invariant-loop-tensor
invariant-loop-tensor l = l.tensors.items ≡ filter (accesses_tensor l.sched.nest) (below l.tensor)
