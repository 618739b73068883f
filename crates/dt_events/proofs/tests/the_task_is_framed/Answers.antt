use Rattle.dt_plan.specs.Operations.{ops_of}
use Rattle.dt_events.specs.Jobs.{op_at}
use Rattle.dt_events.specs.Worked.{product_layout}
use Rattle.dt_events.proofs.WorkedLaws.{task_words}
use Rattle.dt_events.proofs.tests.the_task_is_framed.Goals as goal

pub returns : goal.returns
returns c i = c.units_keep_to_footprints.ensures product_layout c.the_product_is_runnable.ensures.runnable (op_at (ops_of product_layout) 6) task_words i
