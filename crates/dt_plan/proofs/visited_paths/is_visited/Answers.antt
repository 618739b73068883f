use Rattle.std.proofs.Common.{length, ap, ◌∙◌}
use Rattle.std.specs.Prelude.{nat_lt}
use Rattle.dt_nest.specs.Run.{Run}
use Rattle.dt_plan.proofs.PathFacts.{goes_some}
use Rattle.dt_plan.proofs.visited_paths.is_visited.Goals as goal

pub returns : goal.returns
returns g c = c.is_some.ensures ∙ goes_some c.in_ok-visits.visits c.next-first.new.self c.next-first.result c.next-first.ensures.goes ∙ ap (λ (r : Run). nat_lt 0 (length r.left)) c.in_ok-visits.ensures
