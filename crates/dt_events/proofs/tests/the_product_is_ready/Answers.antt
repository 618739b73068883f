use Rattle.dt_events.specs.Worked.{product_layout, given_numbers}
use Rattle.dt_events.proofs.WorkedRuns.{product_numbers, product_ready}
use Rattle.dt_events.proofs.tests.the_product_is_ready.Goals as goal

pub returns : goal.returns
returns c = record {
  ready = product_ready;
  numbers = product_numbers;
  runs = c.listings_run.ensures.run product_layout product_ready given_numbers product_numbers;
  ordered = c.listings_run.ensures.ordered product_layout product_ready given_numbers product_numbers;
}
