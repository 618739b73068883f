use Rattle.std.proofs.Common.{List, Option, length, subst, arith, ap}
use Rattle.dt_nest.specs.declared.progress.Visit.{Visit}
use Rattle.dt_nest.specs.Run.{Goes}
use Rattle.dt_nest.specs.Visits.{Item}
use Rattle.dt_plan.proofs.PathFacts.{goes_one}
use Rattle.dt_plan.proofs.visited_paths.visit_count.Goals as goal

pub overflow_add-count : goal.overflow_add-count
overflow_add-count g c =
    let one = goes_one c.loop-visits.visits c.next.new.self _ (subst (λ (o : Option Visit). Goes c.loop-visits.visits o c.next.new.self) c.in-Some.is c.next.ensures.goes) in
    let inv = c.loop-visits.invariant in
    let few = c.requires.few in
    omega (arith, one, inv, few)

pub loop-visits-preserved : goal.loop-visits-preserved
loop-visits-preserved g c =
    let one = goes_one c.loop-visits.visits c.next.new.self _ (subst (λ (o : Option Visit). Goes c.loop-visits.visits o c.next.new.self) c.in-Some.is c.next.ensures.goes) in
    let inv = c.loop-visits.invariant in
    omega (arith, one, inv)

pub returns-in-None : goal.returns-in-None
returns-in-None g c =
    let none = ap (λ (l : List Item). length l) c.in-None.ensures.goes.0 in
    let inv = c.loop-visits.invariant in
    omega (arith, none, inv)
