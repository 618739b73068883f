use Rattle.std.proofs.Common.{ap, ◌∙◌}
use Rattle.dt_events.specs.Worked.{product_layout, given_numbers, result_of}
use Rattle.dt_events.proofs.WorkedStates.{listing_result}
use Rattle.dt_events.proofs.tests.every_order_leaves_the_product.Goals as goal

pub returns-clause-defined : goal.returns-clause-defined
returns-clause-defined c u h =
    let facts = c.the_product_is_runnable.ensures in
    c.every_order_of_a_job.ensures.defined product_layout facts.runnable given_numbers facts.defined u h

pub returns-clause-result : goal.returns-clause-result
returns-clause-result c u h full =
    let facts = c.the_product_is_runnable.ensures in
    ap result_of (c.every_order_of_a_job.ensures.ends product_layout facts.runnable given_numbers facts.defined u h full) ∙ listing_result
