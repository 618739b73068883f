use Rattle.std.proofs.Common.{◌≡◌, ℕ, ◌≤◌, length, ap, arith}
use Rattle.dt_nest.specs.Schedule.{seen}
use Rattle.dt_rewrite.specs.Laws.Distribute.{distribute_few}
use Rattle.dt_rewrite.proofs.distributes.DistributeRewrite.applied.Goals as goal

pub overflow_cast-parts : goal.overflow_cast-parts
overflow_cast-parts c =
    let few = distribute_few c.args.self (seen c.args.parts) c.requires.lawful c.requires.legal in
    let same : length c.as_slice.result.now ≡ length c.args.self.vars = ap length c.as_slice.ensures in
    omega (arith, few, same)
