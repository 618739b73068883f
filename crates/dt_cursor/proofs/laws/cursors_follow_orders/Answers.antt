use Rattle.dt_cursor.specs.Asked.{fresh_cursor}
use Rattle.dt_cursor.proofs.Allowed.{allowed, follow}
use Rattle.dt_cursor.proofs.laws.cursors_follow_orders.Goals as goal

pub returns-clause-follow : goal.returns-clause-follow
returns-clause-follow c = λ o t u. follow t (fresh_cursor o) u

pub returns-clause-allowed : goal.returns-clause-allowed
returns-clause-allowed c = allowed
