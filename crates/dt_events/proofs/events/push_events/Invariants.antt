use Rattle.std.proofs.Common.{◌≡◌, ◌<◌, ◌≤◌, ◌+◌, ◌-◌, ◌++◌, ◌&&◌, length, map, filter, nat_lt}
use Rattle.dt_base.specs.Ranges.{below}
use Rattle.dt_argument.specs.Events.{nearest}
use Rattle.dt_events.specs.Conflicts.{conflict}
use Rattle.dt_events.specs.Events.{event_limit}
use Rattle.dt_events.proofs.events.push_events.Given as goal

abbrev pub invariant-loop-second : goal.invariant-loop-second
invariant-loop-second l = record {
  pairs : l.pairs.items ≡ l.fn.pairs.items ++ map (λ b. (l.first, b)) (filter (λ b. nat_lt l.first b && nearest (conflict l.plan) l.first b) (below (l.last + 1)));
  met : l.met.items ≡ filter (λ x. nat_lt l.first x && conflict l.plan l.first x) (below (l.last + 1));
  within : length l.pairs.items ≤ event_limit;
  above : l.first ≤ l.last;
  inside : l.last < length l.plan.ops;
}

abbrev pub decreases-loop-second : goal.decreases-loop-second
decreases-loop-second l = length l.plan.ops - l.last
