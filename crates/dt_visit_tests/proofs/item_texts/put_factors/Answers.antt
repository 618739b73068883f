use Rattle.std.proofs.Common.{subst, sym}
use Rattle.std.specs.List.{AllByRecursion}
use Rattle.dt_model.specs.declared.stmt.Factor.{Factor}
use Rattle.dt_nest.specs.Tree.{factor_accesses}
use Rattle.dt_nest.specs.Point.{HasValueAt}
use Rattle.dt_bounds.specs.Points.{AreValuedAt}
use Rattle.dt_bounds.proofs.Additions.{all_part}
use Rattle.dt_visit_tests.proofs.item_texts.put_factors.Goals as goal

pub put_factor-requires-clause-valued : goal.put_factor-requires-clause-valued
put_factor-requires-clause-valued c =
    subst (λ (f : Factor). AreValuedAt c.args.visits.now c.args.point.now.lane (factor_accesses f)) (sym c.factor-item.is)
    (all_part (λ a. AllByRecursion (HasValueAt c.args.visits.now c.args.point.now.lane) a.vars) factor_accesses c.args.factors.now c.loop-factor.factor-index c.factor-item.result c.requires.valued c.loop-factor-test.true)
