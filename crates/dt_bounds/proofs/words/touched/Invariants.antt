use Rattle.std.proofs.Common.{◌≡◌, ℕ, ◌||◌, length}
use Rattle.dt_model.specs.Positions.{tensor_at}
use Rattle.dt_runs.specs.Sets.{contains}
use Rattle.dt_nest.specs.World.{world_of}
use Rattle.dt_nest.specs.Visits.{visits_of}
use Rattle.dt_bounds.specs.Points.{is_touched}
use Rattle.dt_bounds.proofs.words.touched.Given as goal

abbrev pub invariant-loop-found : goal.invariant-loop-found
invariant-loop-found g l = record {
  same_sched : l.visits.sched ≡ l.sched;
  room : length l.values ≡ length l.sched.names;
  same_tensors : l.visits.stored ≡ g.L.Locator.tensors l.loc;
  members : (x : ℕ) → (contains l.found.positions.items x || is_touched (world_of (g.L.Locator.tensors l.loc) l.sched) l.sched.derived (tensor_at (g.L.Locator.tensors l.loc) l.tensor) l.tensor l.visits.left x)
      ≡ is_touched (world_of (g.L.Locator.tensors l.loc) l.sched) l.sched.derived (tensor_at (g.L.Locator.tensors l.loc) l.tensor) l.tensor (visits_of (g.L.Locator.tensors l.loc) l.sched l.path) x;
}

abbrev pub decreases-loop-found : goal.decreases-loop-found
decreases-loop-found g l = length l.visits.left
