use Rattle.std.proofs.Common.{ℕ, ◌<◌, ◌≤◌, List, Ok, ap, sym, ◌∙◌, subst, arith}
use Rattle.std.specs.Prelude.{length}
use Rattle.dt_plan.specs.declared.ops.Op.{Op}
use Rattle.dt_plan.specs.Limits.{PlanView}
use Rattle.dt_plan.specs.Plans.{units_in}
use Rattle.dt_plan.proofs.Planned.{all_within, bounds_are, ops_few, ops_listed, units_many}
use Rattle.dt_plan.proofs.planning.units_within.Goals as goal

pub unit_count-requires : goal.unit_count-requires
unit_count-requires g c =
    let few = ops_few c.args.layout.now c.requires.fits c.args.bounds.items c.requires.bounds c.args.ops c.requires.ops in
    let same = ap (λ (r : List Op). length r) c.as_slice.ensures in
    omega (arith, few, same)

pub returns-then-unit_count-gt-UNIT_LIMIT : goal.returns-then-unit_count-gt-UNIT_LIMIT
returns-then-unit_count-gt-UNIT_LIMIT g c =
    units_many c.args.layout.now c.requires.fits c.args.bounds.items c.requires.bounds c.args.ops c.requires.ops
    (subst (λ (n : ℕ). 33554432 < n) (c.unit_count.ensures ∙ ap (λ (r : List Op). units_in r) c.as_slice.ensures) c.if-unit_count-gt-UNIT_LIMIT.true)

pub returns : goal.returns
returns g c =
    all_within c.args.layout.now c.requires.fits c.args.bounds.items c.requires.bounds c.args.ops c.requires.ops
    (subst (λ (n : ℕ). n ≤ 33554432) (c.unit_count.ensures ∙ ap (λ (r : List Op). units_in r) c.as_slice.ensures) c.if-unit_count-gt-UNIT_LIMIT.false)
    ∙ ap (λ (v : PlanView). Ok v) (sym c.in_ok-listing.ensures)

pub listing_of-requires-clause-bounds : goal.listing_of-requires-clause-bounds
listing_of-requires-clause-bounds g c = bounds_are c.args.layout.now c.requires.fits c.args.bounds.items c.requires.bounds

pub listing_of-requires-clause-ops : goal.listing_of-requires-clause-ops
listing_of-requires-clause-ops g c = ops_listed c.args.layout.now c.requires.fits c.args.bounds.items c.requires.bounds c.args.ops c.requires.ops

pub listing_of-requires-clause-few : goal.listing_of-requires-clause-few
listing_of-requires-clause-few g c = ops_few c.args.layout.now c.requires.fits c.args.bounds.items c.requires.bounds c.args.ops c.requires.ops
