use Rattle.std.proofs.Common.{length, ap, arith}
use Rattle.dt_plan.specs.Layouts.{Layout}
use Rattle.dt_plan.proofs.NumberedParts.{parts_few}
use Rattle.dt_plan.proofs.job_ops.buffers_of.Goals as goal

pub push_all_scratch-requires : goal.push_all_scratch-requires
push_all_scratch-requires g c =
    let few = parts_few c.args.layout.now.parts in
    let same = ap (λ (l : Layout). length l.parts) c.layout.view_is in
    let visits = c.requires.visits in
    omega (arith, few, same, visits)

pub push_all_works-requires : goal.push_all_works-requires
push_all_works-requires g c =
    let few = parts_few c.args.layout.now.parts in
    let same = ap (λ (l : Layout). length l.parts) c.layout.view_is in
    let visits = c.requires.visits in
    omega (arith, few, same, visits)
