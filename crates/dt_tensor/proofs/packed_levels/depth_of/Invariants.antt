use Rattle.std.proofs.Common.{◌≡◌, take}
use Rattle.dt_tensor.specs.Packed.{depth_of}
use Rattle.dt_tensor.proofs.packed_levels.depth_of.Given as goal

abbrev pub invariant-loop-i : goal.invariant-loop-i
invariant-loop-i l = l.depth ≡ depth_of (take l.i l.compressed)
