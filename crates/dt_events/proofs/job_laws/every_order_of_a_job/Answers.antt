use Rattle.dt_events.proofs.JobLists.{orders_defined, orders_end, orders_turn}
use Rattle.dt_events.proofs.job_laws.every_order_of_a_job.Goals as goal

pub returns-clause-defined : goal.returns-clause-defined
returns-clause-defined g l parts x h u a = orders_defined l parts x h u a

pub returns-clause-ends : goal.returns-clause-ends
returns-clause-ends g l parts x h u a full = orders_end l parts x h u a full

pub returns-clause-turns : goal.returns-clause-turns
returns-clause-turns g l parts x h u a b en s e = orders_turn l parts x h u a b en s e
