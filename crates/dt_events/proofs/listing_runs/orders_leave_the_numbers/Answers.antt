use Rattle.dt_events.proofs.JobRuns.{allowed_run, allowed_turns, complete_leave}
use Rattle.dt_events.proofs.listing_runs.orders_leave_the_numbers.Goals as goal

pub returns-clause-defined : goal.returns-clause-defined
returns-clause-defined g l ready x numbers u allowed = allowed_run l ready x numbers u allowed

pub returns-clause-ends : goal.returns-clause-ends
returns-clause-ends g l ready x numbers u allowed full = complete_leave l ready x numbers u allowed full

pub returns-clause-turns : goal.returns-clause-turns
returns-clause-turns g l ready x numbers u allowed b enabled = allowed_turns l ready x numbers u allowed b enabled
