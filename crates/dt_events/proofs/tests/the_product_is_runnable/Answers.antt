use Rattle.dt_events.proofs.WorkedLaws.{product_runnable}
use Rattle.dt_events.proofs.WorkedStates.{listing_defined}
use Rattle.dt_events.proofs.tests.the_product_is_runnable.Goals as goal

pub returns : goal.returns
returns c = record { runnable = product_runnable; defined = listing_defined }
