use Rattle.std.proofs.Common.{◌≡◌, map, take}
use Rattle.dt_plan.specs.declared.ops.Op.{Op}
use Rattle.dt_events.proofs.tracking.op_units.Given as goal

abbrev pub invariant-loop-op : goal.invariant-loop-op
invariant-loop-op l = l.units.items ≡ map (λ (o : Op). o.units) (take l.op-index l.ops)
