use Rattle.std.proofs.Common.{arith}
use Rattle.dt_model.proofs.TermSums.{sum_end, sum_step, kept_step, sum_all}
use Rattle.dt_model.proofs.value.+sum_from.Goals as goal

pub returns-then-at-extents-clause-sum : goal.returns-then-at-extents-clause-sum
returns-then-at-extents-clause-sum t c =
    sum_end c.args.tensors.now c.args.extents.now c.args.env.now c.args.factors.now c.args.at c.product_at.result (omega arith) c.requires.count c.product_at.ensures

pub loop-i-preserved : goal.loop-i-preserved
loop-i-preserved t c = record {
  sum = sum_step c.args.tensors.now c.args.extents.now c.loop-i.env c.args.env.now c.args.factors.now c.args.at c.loop-i.i c.loop-i.sum c.sum_from-sum.result (omega arith) c.loop-i.invariant.kept c.loop-i.invariant.sum c.sum_from-sum.ensures.sum;
  kept = kept_step c.loop-i.env c.sum_from-sum.new.env c.args.env.now c.args.at c.loop-i.i (omega arith) c.sum_from-sum.ensures.kept c.loop-i.invariant.kept;
}

pub returns-clause-sum : goal.returns-clause-sum
returns-clause-sum t c = sum_all c.args.tensors.now c.args.extents.now c.args.env.now c.args.factors.now c.args.at c.loop-i.i c.loop-i.sum (omega arith) (omega arith) c.loop-i.invariant.sum
