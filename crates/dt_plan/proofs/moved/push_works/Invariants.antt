use Rattle.std.proofs.Common.{◌≡◌, ◌+◌, ◌++◌, length, map}
use Rattle.dt_base.specs.Ranges.{below}
use Rattle.dt_plan.proofs.moved.push_works.Given as goal

abbrev pub invariant-loop-work : goal.invariant-loop-work
invariant-loop-work l = l.numbers.items ≡ l.fn.numbers.items ++ map (λ w. length l.sched.tensors + w) (below l.work)
