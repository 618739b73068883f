use Rattle.std.proofs.Common.{◌≡◌, ◌<◌, ◌++◌, [], length, take, drop, slice_index_or}
use Rattle.dt_base.specs.Ranges.{assignments}
use Rattle.dt_base.specs.Rows.{product}
use Rattle.dt_tensor.proofs.dense.coordinates.Given as goal

abbrev pub invariant-loop-i : goal.invariant-loop-i
invariant-loop-i l = record {
  room : length l.all ≡ 4;
  size : l.size ≡ product (drop l.i l.dims);
  within : l.rest < product (drop l.i l.dims);
  front : take l.i l.all ++ slice_index_or (assignments (drop l.i l.dims)) l.rest [] ≡ slice_index_or (assignments l.dims) l.number [];
}
