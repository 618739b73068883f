use Rattle.dt_model.specs.Value.{factor_value}
use Rattle.dt_base.proofs.Sums.{product_more}
use Rattle.dt_model.proofs.value.product_at.Goals as goal

pub loop-factor-preserved : goal.loop-factor-preserved
loop-factor-preserved c =
    product_more (factor_value c.args.tensors.now c.args.env.now) c.args.factors.now c.loop-factor.factor-index c.factor-item.result c.loop-factor.product c.factor_at-product.result
    c.loop-factor-test.true c.factor-item.is c.factor_at-product.ensures c.loop-factor.invariant
