-- `distribute`: the outermost loops over the machine.
use Rattle.std.specs.Prelude.{ℕ, List, Result, Ok}
use Rattle.dt_model.specs.declared.cause.Cause.{Cause}
use Rattle.dt_model.specs.Steps.{◌>>=◌}
use Rattle.dt_nest.specs.Schedule.{Schedule}
use Rattle.dt_schedule.specs.NamesOf.{loops_in}
use Rattle.dt_schedule.specs.declared.commands.Command.{Command}
use Rattle.dt_schedule.specs.declared.commands.Command.TheVariants as command

-- `distribute` with one or more loops
unfoldable pub distribute_of : Schedule → List ℕ → List (List ℕ) → Result Command Cause
distribute_of s grid words = do
  vars ← loops_in s 1 words
  Ok (command.Distribute (record { vars = vars; grid = grid }))
