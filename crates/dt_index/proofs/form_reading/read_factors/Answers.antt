use Rattle.dt_index.specs.Form.{factor_parts}
use Rattle.dt_index.proofs.FormSteps.{factor_goes_on, factor_ends}
use Rattle.dt_index.proofs.form_reading.read_factors.Goals as goal

pub returns-in-None : goal.returns-in-None
returns-in-None c = factor_ends c.loop-factors.factors _ c.loop-factors.rest.now c.loop-factors.rest.now c.in_ok-read_factor-in-None.field-0 _ c.loop-factors.invariant c.in-None.ensures.alone c.in_ok-read_factor-in-None.ensures c.in_ok-push-in-None.ensures.ok

pub loop-factors-preserved : goal.loop-factors-preserved
loop-factors-preserved c = factor_goes_on c.loop-factors.factors _ c.loop-factors.rest.now c.in-Some.front.now (factor_parts c.in-Some.behind.now) c.in_ok-read_factor-in-Some.field-0 _ c.loop-factors.invariant c.in-Some.ensures.parts c.in_ok-read_factor-in-Some.ensures c.in_ok-push-in-Some.ensures.ok
