use Rattle.dt_argument.proofs.Counting.{never_stuck, long_is_complete}
use Rattle.dt_argument.proofs.orders.never_stuck.Goals as goal

pub returns-clause-stuck : goal.returns-clause-stuck
returns-clause-stuck g c l done k = never_stuck l done k

pub returns-clause-complete : goal.returns-clause-complete
returns-clause-complete g c l u h q = long_is_complete l u h q
