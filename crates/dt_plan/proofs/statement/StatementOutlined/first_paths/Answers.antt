use Rattle.std.proofs.Common.{◌≡◌, ℕ, true, List, length, ap, sym, subst}
use Rattle.std.specs.List.{AllByRecursion}
use Rattle.dt_nest.specs.Paths.{HasLoops}
use Rattle.dt_nest.specs.Schedule.{Schedule}
use Rattle.dt_plan.specs.Statements.{StatementView, has_path, is_path_in}
use Rattle.dt_plan.proofs.Depths.{distributed_loops_are}
use Rattle.dt_plan.proofs.StatementFacts.{paths_pass}
use Rattle.dt_plan.proofs.statement.StatementOutlined.first_paths.Goals as goal

pub first_paths-requires-clause-loops : goal.first_paths-requires-clause-loops
first_paths-requires-clause-loops g c =
    subst (λ (k : ℕ). HasLoops k c.self.inside.part.now.sched.nest) (sym (ap (λ (s : Schedule). s.distributed) c.parts.ensures.parts)) (distributed_loops_are c.self.inside.part.now.sched c.self.invariant.0.lawful)

pub returns-clause-each : goal.returns-clause-each
returns-clause-each g c =
    subst (λ (v : StatementView). AllByRecursion (λ (p : List ℕ). (has_path v p ≡ true) × (length p ≡ v.part.sched.distributed)) c.in_ok-paths.paths) c.self.view_is
    (subst (λ (k : ℕ). AllByRecursion (λ (p : List ℕ). (is_path_in c.self.inside.part.now.sched.nest p ≡ true) × (length p ≡ k)) c.in_ok-paths.paths) (ap (λ (s : Schedule). s.distributed) c.parts.ensures.parts)
    (subst (λ (ps : List (List ℕ)). AllByRecursion (λ (p : List ℕ). (is_path_in c.self.inside.part.now.sched.nest p ≡ true) × (length p ≡ c.parts.result.now.distributed)) ps) (sym c.in_ok-paths.ensures)
    (paths_pass (g.L.Locator.tensors c.layout.inside.loc.now) c.self.inside.part.now.sched c.parts.result.now.distributed (subst (λ (k : ℕ). HasLoops k c.self.inside.part.now.sched.nest) (sym (ap (λ (s : Schedule). s.distributed) c.parts.ensures.parts)) (distributed_loops_are c.self.inside.part.now.sched c.self.invariant.0.lawful)))))
