use Rattle.std.proofs.Common.{◌≡◌, ◌++◌, map, take}
use Rattle.dt_plan.specs.PathOps.{free_of}
use Rattle.dt_plan.proofs.path_ops.push_frees.Given as goal

abbrev pub invariant-loop-need : goal.invariant-loop-need
invariant-loop-need l = l.ops ≡ l.fn.ops ++ map (free_of l.fn.on) (take l.need-index l.fn.needs)
