use Rattle.dt_argument.proofs.Counting.{counts_kept, goes_on}
use Rattle.dt_argument.proofs.orders.orders_go_on.Goals as goal

pub returns-clause-on : goal.returns-clause-on
returns-clause-on g c l u b = goes_on l u b

pub returns-clause-counts : goal.returns-clause-counts
returns-clause-counts g c l u h = counts_kept l u h
