use Rattle.std.proofs.Common.{arith}
use Rattle.dt_plan.specs.Operations.{work_size}
use Rattle.dt_plan.proofs.OpenedRows.{sum_below-more}
use Rattle.dt_plan.proofs.bounds.all_work_words.Goals as goal

pub loop-work-preserved : goal.loop-work-preserved
loop-work-preserved c = record {
  sum =
      (let a = c.loop-work.invariant.sum in
      let b = c.work_size.ensures.size in
      let m = sum_below-more (work_size c.args.sched.now) c.loop-work.work in
      omega (arith, a, b, m));
  few = (let a = c.loop-work.invariant.few in let b = c.work_size.ensures.small in omega (arith, a, b));
}
