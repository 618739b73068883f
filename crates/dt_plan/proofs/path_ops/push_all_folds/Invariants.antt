use Rattle.std.proofs.Common.{◌≡◌, ◌++◌, take}
use Rattle.std.specs.List.{flat_map}
use Rattle.dt_plan.specs.PathOps.{folds_of}
use Rattle.dt_plan.proofs.path_ops.push_all_folds.Given as goal

abbrev pub invariant-loop-need : goal.invariant-loop-need
invariant-loop-need l = l.ops ≡ l.fn.ops ++ flat_map (folds_of l.fn.on) (take l.need-index l.fn.needs)
