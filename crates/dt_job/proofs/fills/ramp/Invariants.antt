use Rattle.std.proofs.Common.{◌≡◌}
use Rattle.dt_job.specs.Fills.{ramp_values}
use Rattle.dt_job.proofs.fills.ramp.Given as goal

abbrev pub invariant-loop-position : goal.invariant-loop-position
invariant-loop-position l = l.values.items ≡ ramp_values l.position
