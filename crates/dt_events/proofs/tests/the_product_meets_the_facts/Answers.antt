use Rattle.dt_events.specs.Worked.{product_layout, given_numbers}
use Rattle.dt_events.proofs.tests.the_product_meets_the_facts.Goals as goal

pub returns : goal.returns
returns c = record {
  frames = c.jobs_meet_the_facts.ensures.frames product_layout c.the_product_is_runnable.ensures.runnable given_numbers;
  ordered = c.jobs_meet_the_facts.ensures.ordered product_layout given_numbers c.the_product_is_runnable.ensures.defined;
}
