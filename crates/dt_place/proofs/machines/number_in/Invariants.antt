use Rattle.std.proofs.Common.{◌≡◌, ◌<◌, length, take, drop}
use Rattle.dt_base.specs.Rows.{product, row_major}
use Rattle.dt_base.proofs.Rows.{with_front}
use Rattle.dt_place.proofs.machines.number_in.Given as goal

abbrev pub invariant-loop-i : goal.invariant-loop-i
invariant-loop-i l = record {
  count : length l.dims ≡ length l.c;
  fits : l.number < product (take l.i l.dims);
  same : with_front l.number (drop l.i l.dims) (drop l.i l.c) ≡ row_major l.dims l.c;
}
