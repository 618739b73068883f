use Rattle.std.proofs.Common.{◌≡◌, ◌<◌, length, take, drop}
use Rattle.dt_base.specs.Rows.{product, row_major}
use Rattle.dt_base.proofs.Rows.{with_front}
use Rattle.dt_model.specs.Shape.{dims}
use Rattle.dt_model.proofs.shape.Shape.index.Given as goal

abbrev pub invariant-loop-i : goal.invariant-loop-i
invariant-loop-i l = record {
  count : length (dims l.self) ≡ length l.c;
  fits : l.number < product (take l.i (dims l.self));
  same : with_front l.number (drop l.i (dims l.self)) (drop l.i l.c) ≡ row_major (dims l.self) l.c;
}
