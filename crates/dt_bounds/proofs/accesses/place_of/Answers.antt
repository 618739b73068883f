use Rattle.std.proofs.Common.{◌≡◌, map, ◌∙◌, ap}
use Rattle.std.specs.Prelude.{min}
use Rattle.dt_model.specs.Positions.{tensor_at}
use Rattle.dt_nest.specs.Point.{env_at}
use Rattle.dt_bounds.proofs.Places.{access-place}
use Rattle.dt_bounds.proofs.accesses.place_of.Goals as goal

pub returns : goal.returns
returns g c =
    let e : c.as_slice-2.result.now ≡ map (λ u. min (env_at c.args.visits.now c.args.point.now.lane u) 4294967295) c.args.access.now.vars =
    c.as_slice-2.ensures.value ∙ c.in_ok-write_coordinates.ensures ∙ ap (map (λ u. min (env_at c.args.visits.now c.args.point.now.lane u) 4294967295)) c.as_slice.ensures in
    access-place (tensor_at (g.L.Locator.tensors c.args.target.now.loc.now) c.args.target.now.tensor) c.requires.target.levels c.args.target.now.tensor (env_at c.args.visits.now c.args.point.now.lane) c.args.access.now
    c.as_slice-2.result.now c.place.result c.if-access-target.false e c.place.ensures
