-- `collapse`: a loop and its body in one.
use Rattle.std.specs.Prelude.{ℕ, ◌&&◌, List, [], ◌∷◌, Result, Ok, Err}
use Rattle.dt_model.specs.declared.cause.Cause.{Cause}
use Rattle.dt_model.specs.declared.cause.Cause.TheVariants as cause
use Rattle.dt_model.specs.Steps.{◌>>=◌, need}
use Rattle.dt_nest.specs.Schedule.{Schedule}
use Rattle.dt_text.specs.Names.{is_name}
use Rattle.dt_schedule.specs.NamesOf.{loop_of}
use Rattle.dt_schedule.specs.declared.commands.Command.{Command}
use Rattle.dt_schedule.specs.declared.commands.Command.TheVariants as command

-- `collapse a b f`
unfoldable pub collapse_of : Schedule → List (List ℕ) → Result Command Cause
collapse_of s (a ∷ b ∷ fused ∷ []) = do
  _ ← need (is_name a && is_name b && is_name fused) cause.Syntax
  outer ← loop_of s a
  inner ← loop_of s b
  Ok (command.Collapse (record { outer = outer; inner = inner; fused = fused }))
collapse_of s _ = Err cause.Syntax
