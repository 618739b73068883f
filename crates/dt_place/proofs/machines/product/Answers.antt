use Rattle.std.proofs.Common.{◌≤◌, ℕ, get_or, arith, ap}
use Rattle.dt_base.proofs.Rows.{product_more}
use Rattle.dt_place.proofs.MachineFacts.{product_fits, dim_most}
use Rattle.dt_place.proofs.machines.product.Goals as goal

pub overflow_mul-product : goal.overflow_mul-product
overflow_mul-product c =
    let most : get_or c.args.dims.now c.loop-n.n-index 0 ≤ 64 = dim_most (get_or c.args.dims.now c.loop-n.n-index 0) (c.requires.small c.loop-n.n-index 0 c.loop-n-test.true) in
    omega (arith, (product_fits c.loop-n.n-index c.loop-n.product (get_or c.args.dims.now c.loop-n.n-index 0) (omega arith) c.loop-n.invariant.small most).1)

pub loop-n-preserved : goal.loop-n-preserved
loop-n-preserved c =
    let most : get_or c.args.dims.now c.loop-n.n-index 0 ≤ 64 = dim_most (get_or c.args.dims.now c.loop-n.n-index 0) (c.requires.small c.loop-n.n-index 0 c.loop-n-test.true) in
    record {
      same = rw (product_more c.args.dims.now c.loop-n.n-index c.loop-n-test.true, ← c.loop-n.invariant.same) (ap (λ (n : ℕ). n) (omega arith));
      small = (product_fits c.loop-n.n-index c.loop-n.product (get_or c.args.dims.now c.loop-n.n-index 0) (omega arith) c.loop-n.invariant.small most).0;
    }
