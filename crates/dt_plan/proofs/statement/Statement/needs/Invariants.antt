use Rattle.std.proofs.Common.{◌≡◌, length, map, take}
use Rattle.std.specs.Prelude.{filter, nat_eq}
use Rattle.dt_plan.specs.Operations.{moved_depth}
use Rattle.dt_plan.specs.Statements.{need_at}
use Rattle.dt_plan.proofs.statement.Statement.needs.Given as goal

abbrev pub invariant-loop-number : goal.invariant-loop-number
invariant-loop-number g l = l.items.items ≡ map (need_at l.self l.path) (filter (λ t. nat_eq (moved_depth l.self.part.sched t) (length l.path)) (take l.number-index l.number-items))
