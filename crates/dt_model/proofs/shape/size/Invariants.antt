use Rattle.std.proofs.Common.{◌≡◌, ◌≤◌, ◌^◌, take}
use Rattle.dt_base.specs.Rows.{product}
use Rattle.dt_model.proofs.shape.size.Given as goal

abbrev pub invariant-loop-n : goal.invariant-loop-n
invariant-loop-n l = record {
  same : l.size ≡ product (take l.n-index l.extents);
  small : l.size ≤ 4096 ^ l.n-index;
}
