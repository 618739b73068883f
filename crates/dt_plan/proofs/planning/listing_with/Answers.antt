use Rattle.dt_plan.specs.Limits.{ops_within, plan_of}
use Rattle.dt_plan.proofs.Planned.{ends_whole, ops_end}
use Rattle.dt_plan.proofs.planning.listing_with.Goals as goal

pub returns-in-Err : goal.returns-in-Err
returns-in-Err g c =
    ends_whole c.in-Err.end (ops_within c.args.layout.now) (plan_of c.args.layout.now) (ops_end c.args.layout.now c.requires.fits c.args.bounds.items c.requires.bounds) c.in-Err.ensures
