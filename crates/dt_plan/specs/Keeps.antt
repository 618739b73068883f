-- Lists of operations that are kept up to a limit.
use Rattle.std.specs.Prelude.{◌≡◌, ℕ, ◌<◌, ◌≤◌, List, ◌++◌, length}
use Rattle.dt_plan.specs.declared.ops.Op.{Op}

-- the most operations of a plan
abbrev pub op_limit : ℕ
op_limit = 8192

-- Operations were put behind others: all of them, if no more than the limit stand there now. Else they would pass the limit
-- too, if all stood there.
pub record Keeps (old more new : List Op) : Type 0 where
  pub grows : length old ≤ length new
  pub all : length new ≤ op_limit → new ≡ old ++ more
  pub many : op_limit < length new → op_limit < length (old ++ more)
