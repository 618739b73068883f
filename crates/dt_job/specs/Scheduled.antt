-- A statement with its schedule.
use Rattle.std.specs.Prelude.{ℕ, List}
use Rattle.dt_model.specs.declared.stmt.Stmt.{Stmt}
use Rattle.dt_nest.specs.Schedule.{Schedule}

-- a statement, its text as it is printed, and its schedule so far
pub record ScheduledView : Type 0 where
  pub stmt : Stmt
  pub head : List ℕ
  pub sched : Schedule
