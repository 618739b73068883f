use Rattle.std.proofs.Common.{arith}
use Rattle.std.specs.Prelude.{nat_eq}
use Rattle.dt_plan.specs.Brackets.{block}
use Rattle.dt_plan.proofs.BlockSteps.{paths_kept}
use Rattle.dt_plan.proofs.brackets.push_paths.Goals as goal

pub returns : goal.returns
returns g c =
    let m = g.O.Outlined.outline c.args.nest.now in
    paths_kept (block m m.inner) (λ p. nat_eq (m.node p) c.args.node) c.args.paths.now c.loop-path.path-index c.args.ops.now c.loop-path.ops
    (omega (arith, c.loop-path-test.false, c.loop-path.auto.path-index-end)) c.loop-path.invariant
