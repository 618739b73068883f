use Rattle.std.proofs.Common.{Some}
use Rattle.dt_nest.specs.Meaning.{terms_of}
use Rattle.dt_nest.specs.Run.{is_among}
use Rattle.dt_nest.specs.Point.{env_at, valid_of}
use Rattle.dt_leaf.proofs.VisitSums.{lanes_more}
use Rattle.dt_leaf.proofs.at_visit.lanes_number.Goals as goal

pub loop-x-preserved : goal.loop-x-preserved
loop-x-preserved g c =
    lanes_more (λ y. terms_of (g.N.Numbers.entries c.args.numbers.now) (env_at c.args.visits.now (Some y)) c.args.terms.now) (λ y. is_among y (valid_of c.args.visits.now)) c.loop-x.x c.loop-x.sum c.lane_number-sum.result c.loop-x.invariant c.lane_number-sum.ensures.number
