use Rattle.dt_plan.specs.Operations.{ops_of}
use Rattle.dt_plan.specs.Footprints.{footprints_of}
use Rattle.dt_events.specs.Jobs.{op_at}
use Rattle.dt_events.specs.Worked.{product_layout}
use Rattle.dt_events.proofs.WorkedLaws.{copies_unmet}
use Rattle.dt_events.proofs.tests.the_copies_are_apart.Goals as goal

pub returns : goal.returns
returns c = c.lists_have_frames.ensures.apart (footprints_of product_layout (op_at (ops_of product_layout) 4)) (footprints_of product_layout (op_at (ops_of product_layout) 5)) copies_unmet
