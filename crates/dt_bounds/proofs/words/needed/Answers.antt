use Rattle.std.proofs.Common.{◌≡◌, ◌<◌, ℕ, List, length, arith}
use Rattle.std.specs.List.{list_any}
use Rattle.std.specs.List.Sorted.{IsStrictlyIncreasing}
use Rattle.dt_model.specs.Positions.{StoredTensor, IsStored, coords_at, tensor_at}
use Rattle.dt_runs.specs.Sets.{contains}
use Rattle.dt_nest.specs.Visits.{needed_of, touches, visits_of}
use Rattle.dt_nest.specs.World.{world_of}
use Rattle.dt_nest.proofs.Pruned.{stored_each}
use Rattle.dt_bounds.proofs.Places.{positions_small}
use Rattle.dt_bounds.proofs.PositionSets.{ok_both, positions_are, positions_below}
use Rattle.dt_bounds.proofs.words.needed.Goals as goal

pub set_of-requires : goal.set_of-requires
set_of-requires g c =
    let stored : List StoredTensor = g.L.Locator.tensors c.args.loc.now in
    let s = c.args.sched.now in
    let t : StoredTensor = tensor_at stored c.args.tensor in
    let levels : IsStored t = stored_each stored s c.requires.fits c.args.tensor (omega (arith, c.requires.fits.count, c.requires.tensor)) in
    let few : length t.coords < 4294967295 = positions_small t levels in
    positions_below (λ p. list_any (touches (world_of stored s) s.derived c.args.tensor (coords_at t p)) (visits_of stored s c.args.path.now)) (length t.coords) 4294967295 c.in_ok-positions.positions.items (omega arith) c.in_ok-positions.ensures

pub returns : goal.returns
unfolding needed_of
returns g c =
    let stored : List StoredTensor = g.L.Locator.tensors c.args.loc.now in
    let s = c.args.sched.now in
    let t : StoredTensor = tensor_at stored c.args.tensor in
    ok_both c.set_of.result IsStrictlyIncreasing (λ runs. (x : ℕ) → contains runs x ≡ contains c.in_ok-positions.positions.items x) (λ runs. runs ≡ needed_of stored s c.args.tensor c.args.path.now)
    (λ runs up same. positions_are (λ p. list_any (touches (world_of stored s) s.derived c.args.tensor (coords_at t p)) (visits_of stored s c.args.path.now)) (length t.coords) c.in_ok-positions.positions.items runs c.in_ok-positions.ensures up same)
    c.set_of.ensures.ascending c.set_of.ensures.members
