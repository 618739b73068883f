use Rattle.std.proofs.Common.{◌≡◌, length}
use Rattle.dt_model.proofs.Fronts.{with_front}
use Rattle.dt_index.specs.Form.{factor_parts, factors_in}
use Rattle.dt_index.proofs.form_reading.read_factors.Given as goal

abbrev pub invariant-loop-factors : goal.invariant-loop-factors
invariant-loop-factors l = with_front l.factors (factors_in (factor_parts l.rest)) ≡ factors_in (factor_parts l.symbols)

abbrev pub decreases-loop-factors : goal.decreases-loop-factors
decreases-loop-factors l = length l.rest
