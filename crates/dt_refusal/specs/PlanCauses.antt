-- The texts of the causes for which a plan is refused.
use Rattle.std.specs.Prelude.{ℕ, List, [], ◌++◌, codes}
use Rattle.std.specs.Fmt.{decimal}
use Rattle.dt_model.specs.CauseText.{argument}
use Rattle.dt_refusal.specs.declared.plan_cause.PlanCause.{PlanCause}
use Rattle.dt_refusal.specs.declared.plan_cause.PlanCause.TheVariants as cause

-- the name of a cause
abbrev pub plan_cause_name : PlanCause → List ℕ
plan_cause_name cause.TooManyVisits = codes "TooManyVisits"
plan_cause_name cause.TooManyWords = codes "TooManyWords"
plan_cause_name cause.TooManyOps = codes "TooManyOps"
plan_cause_name cause.TooManyUnits = codes "TooManyUnits"
plan_cause_name cause.TooManyEvents = codes "TooManyEvents"
plan_cause_name (cause.OverCapacity _ _ _) = codes "OverCapacity"

-- its arguments in decimal: of a capacity the node, its bound, and the words that nodes have
abbrev pub plan_cause_arguments : PlanCause → List ℕ
plan_cause_arguments (cause.OverCapacity node bound capacity) = argument (decimal node) ++ argument (decimal bound) ++ argument (decimal capacity)
plan_cause_arguments _ = []

-- the name of a cause, and its arguments, each after a blank
abbrev pub plan_cause_text : PlanCause → List ℕ
plan_cause_text c = plan_cause_name c ++ plan_cause_arguments c
