-- `v o i n`: a loop that becomes two, as `split` and `divide` name it.
use Rattle.std.specs.Prelude.{ℕ, ◌-◌, ◌^◌, ◌&&◌, List, [], ◌∷◌, min, Result, Ok, Err}
use Rattle.dt_text.specs.Names.{is_name}
use Rattle.dt_text.specs.Numbers.{is_numeral, number_of}
use Rattle.dt_model.specs.declared.cause.Cause.{Cause}
use Rattle.dt_model.specs.declared.cause.Cause.TheVariants as cause
use Rattle.dt_model.specs.Steps.{◌>>=◌, need, found}
use Rattle.dt_nest.specs.Schedule.{Schedule}
use Rattle.dt_schedule.specs.declared.two_loops.TwoLoops.{TwoLoops}
use Rattle.dt_schedule.specs.NamesOf.{loop_of}

-- a number as commands take it: one past 32 bits is out of their range and stays so
abbrev pub number_32 : ℕ → ℕ
number_32 n = min n (2 ^ 32 - 1)

-- `v o i n`: a loop in two
unfoldable pub two_loops_of : Schedule → List (List ℕ) → Result TwoLoops Cause
two_loops_of s (v ∷ outer ∷ inner ∷ number ∷ []) = do
  _ ← need (is_name v && is_name outer && is_name inner && is_numeral number) cause.Syntax
  n ← found (number_of number) cause.BadNumber
  var ← loop_of s v
  Ok (record { var = var; outer = outer; inner = inner; number = number_32 n })
two_loops_of s _ = Err cause.Syntax
