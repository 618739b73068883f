use Rattle.std.proofs.Common.{◌+◌, length}
use Rattle.dt_runs.proofs.SweepLemmas.{HaveCommon}
use Rattle.dt_runs.proofs.combine.have_common.Given as goal

abbrev pub invariant-loop-left_rest : goal.invariant-loop-left_rest
invariant-loop-left_rest l = HaveCommon l.left l.right l.left_rest l.right_rest

abbrev pub decreases-loop-left_rest : goal.decreases-loop-left_rest
decreases-loop-left_rest l = length l.left_rest + length l.right_rest
