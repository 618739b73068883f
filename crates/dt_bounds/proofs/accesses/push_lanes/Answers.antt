use Rattle.std.proofs.Common.{◌≡◌, ℕ, ◌+◌, length, subst, arith}
use Rattle.dt_model.specs.Positions.{StoredTensor, tensor_at}
use Rattle.dt_bounds.specs.Found.{Adds}
use Rattle.dt_bounds.specs.Points.{accesses_in, is_lane_reached, is_some_lane_reached, last_touches}
use Rattle.dt_bounds.proofs.Additions.{adds_same, adds_then}
use Rattle.dt_bounds.proofs.Lanes.{lane_more, lanes_touched}
use Rattle.dt_bounds.proofs.accesses.push_lanes.Goals as goal

pub loop-x-preserved : goal.loop-x-preserved
loop-x-preserved g c =
    let t : StoredTensor = tensor_at (g.L.Locator.tensors c.args.target.now.loc.now) c.args.target.now.tensor in
    let r = c.args.visits.now in
    let accesses = accesses_in c.args.accesses.now.lhs.now c.args.accesses.now.terms.now in
    adds_then (length t.coords) (is_some_lane_reached r t c.args.target.now.tensor accesses c.loop-x.x) (is_lane_reached r t c.args.target.now.tensor accesses c.loop-x.x) (is_some_lane_reached r t c.args.target.now.tensor accesses (c.loop-x.x + 1))
    c.args.found.now.positions.items c.loop-x.found.positions.items c.push_lane.new.found.positions.items c.loop-x.invariant c.in_ok-push_lane.ensures.adds (lane_more r t c.args.target.now.tensor accesses c.loop-x.x)

pub returns-clause-adds : goal.returns-clause-adds
returns-clause-adds g c =
    let t : StoredTensor = tensor_at (g.L.Locator.tensors c.args.target.now.loc.now) c.args.target.now.tensor in
    let r = c.args.visits.now in
    let accesses = accesses_in c.args.accesses.now.lhs.now c.args.accesses.now.terms.now in
    let all : c.loop-x.x ≡ c.args.extent = omega arith in
    let found = subst (λ (n : ℕ). Adds (length t.coords) (is_some_lane_reached r t c.args.target.now.tensor accesses n) c.args.found.now.positions.items c.loop-x.found.positions.items) all c.loop-x.invariant in
    adds_same (length t.coords) (is_some_lane_reached r t c.args.target.now.tensor accesses c.args.extent) (last_touches r t c.args.target.now.tensor)
    c.args.found.now.positions.items c.loop-x.found.positions.items (lanes_touched r t c.args.target.now.tensor c.args.extent c.args.accesses.now.lhs.now c.args.accesses.now.terms.now c.requires.leaf c.requires.lanes) found
