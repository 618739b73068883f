-- The events of a plan.
use Rattle.std.specs.Prelude.{◌≡◌, ℕ, ◌<◌, ◌↔◌, true, ◌&&◌, List, length, map, filter, nat_lt}
use Rattle.dt_base.specs.Ranges.{below}
use Rattle.dt_argument.specs.Events.{Chain, nearest, events_among, is_listed}
use Rattle.dt_plan.specs.Limits.{PlanView}
use Rattle.dt_events.specs.Conflicts.{Conflicts, conflict}

-- the pairs of operations, ascending, that conflict with no operation between them that conflicts with both
abbrev pub events_of : PlanView → List (ℕ × ℕ)
events_of p = events_among (conflict p) (length p.ops)

-- those with this first operation
abbrev pub events_from : PlanView → ℕ → List (ℕ × ℕ)
events_from p a = map (λ b. (a, b)) (filter (λ b. nat_lt a b && nearest (conflict p) a b) (below (length p.ops)))

-- the most events of a plan
abbrev pub event_limit : ℕ
event_limit = 1048576

-- Each conflicting pair of a plan is joined by a chain of its events.
abbrev pub PlanConflictsAreJoined : Type 0
PlanConflictsAreJoined = (p : PlanView) (a b : ℕ) → a < b → b < length p.ops → Conflicts p a b → Chain (is_listed (events_of p)) a b

-- The events have exactly the pairs of operations that conflict with none between them that conflicts with both.
abbrev pub EventsOfAreNearest : Type 0
EventsOfAreNearest = (p : PlanView) (a b : ℕ) → (is_listed (events_of p) a b ≡ true) ↔ ((a < b) × (b < length p.ops) × (nearest (conflict p) a b ≡ true))
