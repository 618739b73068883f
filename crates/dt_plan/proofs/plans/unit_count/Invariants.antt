use Rattle.std.proofs.Common.{◌≡◌, ◌*◌, ◌≤◌, take}
use Rattle.dt_plan.specs.Plans.{units_in}
use Rattle.dt_plan.proofs.plans.unit_count.Given as goal

abbrev pub invariant-loop-op : goal.invariant-loop-op
invariant-loop-op l = (l.count ≡ units_in (take l.op-index l.ops)) × (l.count ≤ 4294967296 * l.op-index)
