-- `split`: a loop in two, by the extent of the inner one.
use Rattle.std.specs.Prelude.{ℕ, List, Result, Ok, Err}
use Rattle.dt_model.specs.declared.cause.Cause.{Cause}
use Rattle.dt_model.specs.declared.cause.Cause.TheVariants as cause
use Rattle.dt_model.specs.Steps.{◌>>=◌}
use Rattle.dt_nest.specs.Schedule.{Schedule}
use Rattle.dt_schedule.specs.TwoLoops.{two_loops_of}
use Rattle.dt_schedule.specs.declared.commands.Command.{Command}
use Rattle.dt_schedule.specs.declared.commands.Command.TheVariants as command

-- `split v o i s`
unfoldable pub split_of : Schedule → List (List ℕ) → Result Command Cause
split_of s words = do
  t ← two_loops_of s words
  Ok (command.Split (record { var = t.var; outer = t.outer; inner = t.inner; factor = t.number }))
