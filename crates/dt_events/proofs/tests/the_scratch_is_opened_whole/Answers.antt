use Rattle.std.proofs.Common.{refl}
use Rattle.dt_argument.specs.Events.{is_listed}
use Rattle.dt_plan.specs.declared.touches.Buffer.TheVariants.{Scratch}
use Rattle.dt_plan.specs.Limits.{plan_view}
use Rattle.dt_plan.specs.Operations.{ops_of}
use Rattle.dt_events.specs.Events.{events_of}
use Rattle.dt_events.specs.Jobs.{state_of}
use Rattle.dt_events.specs.Worked.{product_layout, given_numbers}
use Rattle.dt_events.proofs.tests.the_scratch_is_opened_whole.Goals as goal

pub returns : goal.returns
returns c done =
    c.buffers_are_opened_whole.ensures.whole product_layout (ops_of product_layout) (is_listed (events_of (plan_view product_layout))) (state_of product_layout given_numbers) done 0 (Scratch 0 1) (λ w. refl)
