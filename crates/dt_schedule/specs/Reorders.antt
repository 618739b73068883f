-- `reorder`: consecutive loops in another order.
use Rattle.std.specs.Prelude.{ℕ, List, Result, Ok}
use Rattle.dt_model.specs.declared.cause.Cause.{Cause}
use Rattle.dt_model.specs.Steps.{◌>>=◌}
use Rattle.dt_nest.specs.Schedule.{Schedule}
use Rattle.dt_schedule.specs.NamesOf.{loops_in}
use Rattle.dt_schedule.specs.declared.commands.Command.{Command}
use Rattle.dt_schedule.specs.declared.commands.Command.TheVariants as command

-- `reorder` with two or more loops
unfoldable pub reorder_of : Schedule → List (List ℕ) → Result Command Cause
reorder_of s words = do
  vars ← loops_in s 2 words
  Ok (command.Reorder (record { vars = vars }))
