use Rattle.std.proofs.Common.{◌≡◌}
use Rattle.dt_job.specs.Fills.{seed_values, state_after}
use Rattle.dt_job.proofs.fills.seeded.Given as goal

abbrev pub invariant-loop-position : goal.invariant-loop-position
invariant-loop-position l = record {
  state : l.state ≡ state_after l.seed l._position;
  values : l.values.items ≡ seed_values l.seed l._position;
}
