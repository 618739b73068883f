-- The texts of refusals.
use Rattle.std.specs.Prelude.{ℕ, List, [], ◌∷◌, ◌++◌, codes}
use Rattle.std.specs.Fmt.{decimal}
use Rattle.dt_model.specs.CauseText.{cause_text}
use Rattle.dt_model.specs.declared.cause.Cause.{Cause}
use Rattle.dt_refusal.specs.OrderCauses.{order_cause_text}
use Rattle.dt_refusal.specs.PlanCauses.{plan_cause_text}
use Rattle.dt_refusal.specs.declared.order_cause.OrderCause.{OrderCause}
use Rattle.dt_refusal.specs.declared.plan_cause.PlanCause.{PlanCause}

-- the end of a line
abbrev pub line_end : List ℕ
line_end = 10 ∷ []

-- what is written for an input that is too long
abbrev pub too_long_text : List ℕ
too_long_text = codes "refused input: TooLong" ++ line_end

-- what is written where line n is refused
abbrev pub refused_line_text : ℕ → Cause → List ℕ
refused_line_text n c = codes "refused line " ++ decimal n ++ codes ": " ++ cause_text c ++ line_end

-- what is written where a plan is refused
abbrev pub refused_plan_text : PlanCause → List ℕ
refused_plan_text c = codes "refused plan: " ++ plan_cause_text c ++ line_end

-- what is written where an order is refused
abbrev pub refused_order_text : OrderCause → List ℕ
refused_order_text c = codes "refused order: " ++ order_cause_text c ++ line_end
