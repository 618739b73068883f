use Rattle.dt_events.proofs.JobRuns.{listings_run, ready_ordered, turns_defined}
use Rattle.dt_events.proofs.listing_runs.listings_run.Goals as goal

pub returns-clause-run : goal.returns-clause-run
returns-clause-run g l ready x numbers = listings_run l ready x numbers

pub returns-clause-turns : goal.returns-clause-turns
returns-clause-turns g l ready x numbers a i h k = turns_defined l ready x numbers a i h k

pub returns-clause-ordered : goal.returns-clause-ordered
returns-clause-ordered g l ready x numbers = ready_ordered l ready x numbers
