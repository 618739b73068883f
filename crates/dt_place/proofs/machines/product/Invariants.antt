use Rattle.std.proofs.Common.{◌≡◌, ◌≤◌, ◌^◌, take}
use Rattle.dt_base.specs.Rows.{product}
use Rattle.dt_place.proofs.machines.product.Given as goal

abbrev pub invariant-loop-n : goal.invariant-loop-n
invariant-loop-n l = record {
  same : l.product ≡ product (take l.n-index l.dims);
  small : l.product ≤ 64 ^ l.n-index;
}
