use Rattle.dt_argument.proofs.Runs.{run_along_is, same_counts, same_end, same_turn}
use Rattle.dt_argument.proofs.orders.every_order.Goals as goal

pub returns-clause-defined : goal.returns-clause-defined
returns-clause-defined g c l f o u h = run_along_is l f o u h

pub returns-clause-counts : goal.returns-clause-counts
returns-clause-counts g c l f o u v h k same = same_counts l f o u v h k same

pub returns-clause-ends : goal.returns-clause-ends
returns-clause-ends g c l f o u h full = same_end l f o u h full

pub returns-clause-turns : goal.returns-clause-turns
returns-clause-turns g c l f o u h b en s e = same_turn l f o u h b en s e
