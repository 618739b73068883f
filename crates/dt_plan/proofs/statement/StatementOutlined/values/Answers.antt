use Rattle.std.proofs.Common.{◌≡◌, ℕ, ◌∷◌, [], ◌++◌, true, List, ap, sym, ◌∙◌, subst, arith}
use Rattle.std.specs.List.{AllByRecursion}
use Rattle.dt_nest.specs.Paths.{task_depth}
use Rattle.dt_plan.specs.Statements.{StatementView, has_path, is_path_in}
use Rattle.dt_plan.proofs.PathTests.{path_is}
use Rattle.dt_plan.proofs.StatementFacts.{loop_inside, longer_pass}
use Rattle.dt_plan.proofs.statement.StatementOutlined.values.Goals as goal

pub visited_values-requires-clause-path : goal.visited_values-requires-clause-path
visited_values-requires-clause-path g c = path_is c.self.inside.part.now.sched.nest c.args.path.now (ap (λ (v : StatementView). has_path v c.args.path.now) c.self.view_is ∙ c.requires.path)

pub visited_values-requires-clause-loops : goal.visited_values-requires-clause-loops
visited_values-requires-clause-loops g c =
    let last = ap (λ (v : StatementView). task_depth v.part.sched) c.self.view_is in
    let outer = c.requires.outer in
    loop_inside c.self.inside.part.now.sched c.args.path.now c.self.invariant.0.lawful (omega (arith, last, outer))

pub returns-clause-each : goal.returns-clause-each
returns-clause-each g c =
    let last = ap (λ (v : StatementView). task_depth v.part.sched) c.self.view_is in
    let outer = c.requires.outer in
    subst (λ (v : StatementView). AllByRecursion (λ (i : ℕ). has_path v (c.args.path.now ++ i ∷ []) ≡ true) c.in_ok-values.values.items) c.self.view_is
    (subst (λ (l : List ℕ). AllByRecursion (λ (i : ℕ). is_path_in c.self.inside.part.now.sched.nest (c.args.path.now ++ i ∷ []) ≡ true) l) (sym c.in_ok-values.ensures)
    (longer_pass (g.L.Locator.tensors c.layout.inside.loc.now) c.self.inside.part.now.sched c.args.path.now (path_is c.self.inside.part.now.sched.nest c.args.path.now (ap (λ (v : StatementView). has_path v c.args.path.now) c.self.view_is ∙ c.requires.path))
    (loop_inside c.self.inside.part.now.sched c.args.path.now c.self.invariant.0.lawful (omega (arith, last, outer)))))
