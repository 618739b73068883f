use Rattle.dt_plan.specs.Limits.{bounds_within, plan_of}
use Rattle.dt_plan.proofs.Planned.{ends_whole, words_end}
use Rattle.dt_plan.proofs.planning.listing_within.Goals as goal

pub returns-in-Err : goal.returns-in-Err
returns-in-Err g c =
    ends_whole c.in-Err.end (bounds_within c.args.layout.now) (plan_of c.args.layout.now) (words_end c.args.layout.now c.requires.fits) c.in-Err.ensures
