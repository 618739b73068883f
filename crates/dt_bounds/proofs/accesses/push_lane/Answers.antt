use Rattle.dt_bounds.proofs.Lanes.{lane_valued}
use Rattle.dt_bounds.proofs.accesses.push_lane.Goals as goal

pub push_point-requires-clause-valued : goal.push_point-requires-clause-valued
push_point-requires-clause-valued g c = lane_valued c.args.visits.now c.args.x c.args.accesses.now.lhs.now c.args.accesses.now.terms.now c.requires.leaf c.requires.valued
