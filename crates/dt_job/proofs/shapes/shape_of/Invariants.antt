use Rattle.std.proofs.Common.{◌≡◌, length, take}
use Rattle.dt_job.proofs.shapes.shape_of.Given as goal

abbrev pub invariant-loop-i : goal.invariant-loop-i
invariant-loop-i l = record {
  room : length l.all ≡ 4;
  front : take l.i l.all ≡ take l.i l.extents;
}
