use Rattle.std.proofs.Common.{◌<◌, ◌≤◌, ℕ, length, sym, subst, arith}
use Rattle.std.specs.List.{AllByRecursion}
use Rattle.dt_nest.proofs.MarkFacts.{all_marks}
use Rattle.dt_nest.proofs.dependents.mark_inner_loops.Goals as goal

pub returns-clause-marks : goal.returns-clause-marks
returns-clause-marks c =
    let past : length c.loop-u.marks ≤ c.loop-u.u = omega (arith, c.loop-u-test.false, c.loop-u.invariant.same) in
    all_marks c.args.inner_loops.now c.loop-u.marks c.loop-u.u (subst (λ (n : ℕ). AllByRecursion (λ w. w.var < n) c.args.inner_loops.now) (sym c.loop-u.invariant.same) c.requires.within) past c.loop-u.invariant.done
