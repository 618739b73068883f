use Rattle.std.proofs.Common.{ℕ, List, Ok, ap, sym, ◌∙◌, subst, arith}
use Rattle.dt_plan.specs.Layouts.{Layout}
use Rattle.dt_plan.specs.Limits.{Fails, PlanView, plan_of}
use Rattle.dt_plan.specs.Plans.{IsPlan, plan_with}
use Rattle.dt_plan.proofs.Planned.{homes_there, layout_fits, plan_stands, visits_many, with_nodes}
use Rattle.dt_plan.proofs.planning.plan_of.Goals as goal

pub returns-then-has_too_many_visits : goal.returns-then-has_too_many_visits
returns-then-has_too_many_visits g c = visits_many _ (sym c.has_too_many_visits.ensures.count ∙ c.if-has_too_many_visits.true)

pub listing_on-requires-clause-homes : goal.listing_on-requires-clause-homes
listing_on-requires-clause-homes g c =
    homes_there c.args.machine.now (g.L.Locator.tensors c.args.loc.now) c.args.places.now c.args.parts.now c.as_slice.result.now c.node_count-nodes.ensures.lawful c.requires.count
    (let few = c.if-places.false in omega (arith, few)) (c.as_slice.ensures.value ∙ c.in_ok-homes.ensures)

pub listing_on-requires-clause-fits : goal.listing_on-requires-clause-fits
listing_on-requires-clause-fits g c =
    layout_fits (record { machine = c.args.machine.now; stored = g.L.Locator.tensors c.args.loc.now; homes = c.as_slice.result.now; parts = c.args.parts.now }) c.has_too_many_visits.ensures.lawful c.requires.fits
    (sym c.has_too_many_visits.ensures.count ∙ c.if-has_too_many_visits.false)

pub returns-in-Err : goal.returns-in-Err
returns-in-Err g c =
    subst (λ (homes : List (List (List ℕ))). Fails c.in-Err.end (plan_of (record { machine = c.args.machine.now; stored = g.L.Locator.tensors c.args.loc.now; homes = homes; parts = c.args.parts.now })))
    (c.as_slice.ensures.value ∙ c.in_ok-homes.ensures) c.in-Err.ensures

pub returns-in-Ok : goal.returns-in-Ok
returns-in-Ok g c =
    let l : Layout = record { machine = c.args.machine.now; stored = g.L.Locator.tensors c.args.loc.now; homes = c.as_slice.result.now; parts = c.args.parts.now } in
    ap (λ (homes : List (List (List ℕ))). plan_of (record { machine = c.args.machine.now; stored = g.L.Locator.tensors c.args.loc.now; homes = homes; parts = c.args.parts.now })) (sym (c.as_slice.ensures.value ∙ c.in_ok-homes.ensures))
    ∙ c.in-Ok.ensures ∙ ap (λ (v : PlanView). Ok v) (with_nodes l c.in-Ok.listing c.node_count-nodes.result c.in_ok-homes.homes.items c.node_count-nodes.ensures.count (sym c.as_slice.ensures.value))

pub invariant_of-result : goal.invariant_of-result
invariant_of-result g c =
    let l : Layout = record { machine = c.args.machine.now; stored = g.L.Locator.tensors c.args.loc.now; homes = c.as_slice.result.now; parts = c.args.parts.now } in
    subst IsPlan (with_nodes l c.in-Ok.listing c.node_count-nodes.result c.in_ok-homes.homes.items c.node_count-nodes.ensures.count (sym c.as_slice.ensures.value))
    (plan_stands l
    (homes_there c.args.machine.now (g.L.Locator.tensors c.args.loc.now) c.args.places.now c.args.parts.now c.as_slice.result.now c.node_count-nodes.ensures.lawful c.requires.count
    (let few = c.if-places.false in omega (arith, few)) (c.as_slice.ensures.value ∙ c.in_ok-homes.ensures))
    (layout_fits l c.has_too_many_visits.ensures.lawful c.requires.fits (sym c.has_too_many_visits.ensures.count ∙ c.if-has_too_many_visits.false)) (plan_with l c.in-Ok.listing) c.in-Ok.ensures)
