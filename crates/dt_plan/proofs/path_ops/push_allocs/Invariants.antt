use Rattle.std.proofs.Common.{◌≡◌, ◌++◌, map, take}
use Rattle.dt_plan.specs.PathOps.{alloc_of}
use Rattle.dt_plan.proofs.path_ops.push_allocs.Given as goal

abbrev pub invariant-loop-need : goal.invariant-loop-need
invariant-loop-need l = l.ops ≡ l.fn.ops ++ map (alloc_of l.fn.on) (take l.need-index l.fn.needs)
