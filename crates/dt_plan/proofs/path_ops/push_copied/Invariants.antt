use Rattle.std.proofs.Common.{◌≡◌, ◌++◌, map, take}
use Rattle.dt_plan.specs.PathOps.{copy_of}
use Rattle.dt_plan.proofs.path_ops.push_copied.Given as goal

abbrev pub invariant-loop-piece : goal.invariant-loop-piece
invariant-loop-piece l = l.ops ≡ l.fn.ops ++ map (copy_of l.fn.on l.fn.tensor) (take l.piece-index l.fn.pieces)
