use Rattle.dt_bounds.proofs.Lanes.{lane_valued}
use Rattle.dt_visit_tests.proofs.item_texts.put_lane.Goals as goal

pub put_point-requires-clause-valued : goal.put_point-requires-clause-valued
put_point-requires-clause-valued c = lane_valued c.args.visits.now c.args.x c.args.accesses.now.lhs.now c.args.accesses.now.terms.now c.requires.leaf c.requires.valued
