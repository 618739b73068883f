use Rattle.dt_place.proofs.PositionSets.{interval_is}
use Rattle.dt_place.proofs.homes.between.Goals as goal

pub returns : goal.returns
returns c = rw (← interval_is c.args.count c.args.from c.args.to c.requires.order c.requires.within) c.of_box.ensures
