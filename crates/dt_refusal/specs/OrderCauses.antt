-- The texts of the causes for which an order is refused.
use Rattle.std.specs.Prelude.{ℕ, List, ◌++◌, codes}
use Rattle.std.specs.Fmt.{decimal}
use Rattle.dt_model.specs.CauseText.{argument}
use Rattle.dt_refusal.specs.declared.order_cause.UnitFault.{UnitFault}
use Rattle.dt_refusal.specs.declared.order_cause.UnitFault.TheVariants as fault
use Rattle.dt_refusal.specs.declared.order_cause.OrderCause.{OrderCause}
use Rattle.dt_refusal.specs.declared.order_cause.OrderCause.TheVariants as cause

-- why a unit may not run, with the operation that it is about
abbrev pub unit_fault_text : UnitFault → List ℕ
unit_fault_text (fault.Unknown op) = argument (codes "Unknown") ++ argument (decimal op)
unit_fault_text (fault.Waits op) = argument (codes "Waits") ++ argument (decimal op)
unit_fault_text (fault.Finished op) = argument (codes "Finished") ++ argument (decimal op)

-- the name of a cause, and its arguments, each after a blank
abbrev pub order_cause_text : OrderCause → List ℕ
order_cause_text (cause.OrderRefused entry f) = codes "OrderRefused" ++ argument (decimal entry) ++ unit_fault_text f
order_cause_text (cause.OrderShort op) = codes "OrderShort" ++ argument (decimal op)
