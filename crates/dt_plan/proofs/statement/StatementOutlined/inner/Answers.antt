use Rattle.std.proofs.Common.{ap, arith}
use Rattle.dt_nest.specs.Schedule.{Schedule}
use Rattle.dt_nest.specs.Paths.{task_depth}
use Rattle.dt_plan.specs.Statements.{StatementView}
use Rattle.dt_plan.proofs.Depths.{deepest_is}
use Rattle.dt_plan.proofs.statement.StatementOutlined.inner.Goals as goal

pub overflow_sub-result : goal.overflow_sub-result
overflow_sub-result g c =
    let deep = deepest_is c.self.inside.part.now.sched c.self.invariant.0.lawful in
    let first = ap (λ (s : Schedule). s.distributed) c.parts.ensures.parts in
    let all = c.self.invariant.2 in
    omega (arith, deep, first, all)

pub returns-clause-deepest : goal.returns-clause-deepest
returns-clause-deepest g c =
    let deep = deepest_is c.self.inside.part.now.sched c.self.invariant.0.lawful in
    let first = ap (λ (s : Schedule). s.distributed) c.parts.ensures.parts in
    let all = c.self.invariant.2 in
    let last = ap (λ (v : StatementView). task_depth v.part.sched) c.self.view_is in
    let begin = ap (λ (v : StatementView). v.part.sched.distributed) c.self.view_is in
    omega (arith, deep, first, all, last, begin)
