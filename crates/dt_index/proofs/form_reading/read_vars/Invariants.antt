use Rattle.std.proofs.Common.{◌≡◌, length}
use Rattle.dt_model.proofs.Fronts.{with_front}
use Rattle.dt_index.specs.Form.{vars_of}
use Rattle.dt_index.proofs.form_reading.read_vars.Given as goal

abbrev pub invariant-loop-vars : goal.invariant-loop-vars
invariant-loop-vars l = with_front l.vars (vars_of l.rest) ≡ vars_of l.symbols

abbrev pub decreases-loop-vars : goal.decreases-loop-vars
decreases-loop-vars l = length l.rest
