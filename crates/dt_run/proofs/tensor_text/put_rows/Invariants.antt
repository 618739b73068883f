use Rattle.std.proofs.Common.{◌≡◌, ◌++◌}
use Rattle.dt_run.specs.TensorText.{cut_text}
use Rattle.dt_run.proofs.tensor_text.put_rows.Given as goal

abbrev pub invariant-loop-r : goal.invariant-loop-r
invariant-loop-r l = l.out ≡ l.fn.out ++ cut_text l.r l.row l.values
