use Rattle.std.proofs.Common.{◌≡◌, ◌++◌}
use Rattle.dt_plan.proofs.ops.Ops.append.Given as goal

abbrev pub invariant-loop-op : goal.invariant-loop-op
invariant-loop-op l = l.self-inside.items.items ≡ l.fn.self ++ l.yielded
