-- `divide`: a loop in two, by the extent of the outer one.
use Rattle.std.specs.Prelude.{ℕ, List, Result, Ok, Err}
use Rattle.dt_model.specs.declared.cause.Cause.{Cause}
use Rattle.dt_model.specs.declared.cause.Cause.TheVariants as cause
use Rattle.dt_model.specs.Steps.{◌>>=◌}
use Rattle.dt_nest.specs.Schedule.{Schedule}
use Rattle.dt_schedule.specs.TwoLoops.{two_loops_of}
use Rattle.dt_schedule.specs.declared.commands.Command.{Command}
use Rattle.dt_schedule.specs.declared.commands.Command.TheVariants as command

-- `divide v o i p`
unfoldable pub divide_of : Schedule → List (List ℕ) → Result Command Cause
divide_of s words = do
  t ← two_loops_of s words
  Ok (command.Divide (record { var = t.var; outer = t.outer; inner = t.inner; pieces = t.number }))
