use Rattle.dt_events.specs.Worked.{product_layout, given_numbers}
use Rattle.dt_events.proofs.tests.every_order_leaves_the_numbers.Goals as goal

pub returns : goal.returns
returns c u h full =
    let facts = c.the_product_is_ready.ensures in
    c.orders_leave_the_numbers.ensures.ends product_layout facts.ready given_numbers facts.numbers u h full
