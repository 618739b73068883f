use Rattle.std.proofs.Common.{ℕ, ◌≤◌, refl, subst}
use Rattle.dt_events.specs.LiveWords.{live_of}
use Rattle.dt_events.specs.Worked.{product_layout, given_numbers}
use Rattle.dt_events.proofs.WorkedLaws.{product_bound}
use Rattle.dt_events.proofs.tests.no_order_passes_the_bound.Goals as goal

pub returns-clause-opening : goal.returns-clause-opening
returns-clause-opening c = refl

pub returns-clause-bound : goal.returns-clause-bound
returns-clause-bound c = product_bound

pub returns-clause-orders : goal.returns-clause-orders
returns-clause-orders c u s allowed run =
    let facts = c.the_product_is_ready.ensures in
    subst (λ (m : ℕ). live_of product_layout 0 s ≤ m) product_bound (c.live_words_are_bounded.ensures product_layout facts.ready given_numbers facts.numbers u allowed s run 0)
