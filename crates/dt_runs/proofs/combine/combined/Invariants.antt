use Rattle.std.proofs.Common.{◌-◌, ◌^◌}
use Rattle.dt_runs.proofs.SweepLemmas.{IsSwept}
use Rattle.dt_runs.proofs.combine.combined.Given as goal

abbrev pub invariant-loop-left_rest : goal.invariant-loop-left_rest
invariant-loop-left_rest l = IsSwept l.combination l.left l.right l.left_rest l.right_rest l.at l.kept

abbrev pub decreases-loop-left_rest : goal.decreases-loop-left_rest
decreases-loop-left_rest l = 2 ^ 32 - l.at
