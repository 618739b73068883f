use Rattle.std.proofs.Common.{length}
use Rattle.dt_model.specs.Positions.{tensor_at}
use Rattle.dt_bounds.specs.Found.{Adds}
use Rattle.dt_bounds.specs.Points.{accesses_in, is_some_lane_reached}
use Rattle.dt_bounds.proofs.accesses.push_lanes.Given as goal

abbrev pub invariant-loop-x : goal.invariant-loop-x
invariant-loop-x g l =
    Adds (length (tensor_at (g.L.Locator.tensors l.target.loc.now) l.target.tensor).coords)
    (is_some_lane_reached l.visits (tensor_at (g.L.Locator.tensors l.target.loc.now) l.target.tensor) l.target.tensor (accesses_in l.accesses.lhs.now l.accesses.terms.now) l.x) l.fn.found.positions.items l.found.positions.items
