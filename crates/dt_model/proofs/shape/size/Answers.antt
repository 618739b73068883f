use Rattle.std.proofs.Common.{◌≤◌, ℕ, get_or, arith, ap}
use Rattle.dt_base.proofs.Rows.{product_more}
use Rattle.dt_model.proofs.ShapeFacts.{size_fits, extent_most}
use Rattle.dt_model.proofs.shape.size.Goals as goal

pub overflow_mul-size : goal.overflow_mul-size
overflow_mul-size c =
    let most : get_or c.args.extents.now c.loop-n.n-index 0 ≤ 4096 = extent_most (get_or c.args.extents.now c.loop-n.n-index 0) (c.requires.small c.loop-n.n-index 0 c.loop-n-test.true) in
    omega (arith, (size_fits c.loop-n.n-index c.loop-n.size c.from-size.result (omega arith) c.loop-n.invariant.small (omega arith)).1)

pub loop-n-preserved : goal.loop-n-preserved
loop-n-preserved c =
    let most : get_or c.args.extents.now c.loop-n.n-index 0 ≤ 4096 = extent_most (get_or c.args.extents.now c.loop-n.n-index 0) (c.requires.small c.loop-n.n-index 0 c.loop-n-test.true) in
    record {
      same = rw (product_more c.args.extents.now c.loop-n.n-index c.loop-n-test.true, ← c.loop-n.invariant.same, ← c.from-size.ensures) (ap (λ (n : ℕ). n) (omega arith));
      small = (size_fits c.loop-n.n-index c.loop-n.size c.from-size.result (omega arith) c.loop-n.invariant.small (omega arith)).0;
    }
