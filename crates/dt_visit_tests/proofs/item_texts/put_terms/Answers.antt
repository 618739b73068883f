use Rattle.std.proofs.Common.{List, subst, sym, ◌∙◌, ap}
use Rattle.std.specs.List.{AllByRecursion, flat_map}
use Rattle.dt_model.specs.declared.stmt.Factor.{Factor}
use Rattle.dt_model.specs.declared.stmt.Term.{Term}
use Rattle.dt_nest.specs.Tree.{factor_accesses}
use Rattle.dt_nest.specs.Point.{HasValueAt}
use Rattle.dt_bounds.specs.Points.{AreValuedAt}
use Rattle.dt_bounds.proofs.Additions.{all_part}
use Rattle.dt_visit_tests.proofs.item_texts.put_terms.Goals as goal

pub put_factors-requires-clause-valued : goal.put_factors-requires-clause-valued
put_factors-requires-clause-valued c =
    subst (λ (fs : List Factor). AreValuedAt c.args.visits.now c.args.point.now.lane (flat_map factor_accesses fs)) (sym (c.as_slice.ensures ∙ ap (λ (t : Term). t.factors) c.term-item.is))
    (all_part (λ a. AllByRecursion (HasValueAt c.args.visits.now c.args.point.now.lane) a.vars) (λ (t : Term). flat_map factor_accesses t.factors) c.args.terms.now c.loop-term.term-index c.term-item.result c.requires.valued c.loop-term-test.true)
