use Rattle.std.proofs.Common.{◌≡◌, ◌≤◌, length}
use Rattle.std.specs.List.{flat_map}
use Rattle.dt_base.specs.Ranges.{below}
use Rattle.dt_events.specs.Events.{event_limit, events_from}
use Rattle.dt_events.proofs.events.events_of.Given as goal

abbrev pub invariant-loop-first : goal.invariant-loop-first
invariant-loop-first l = record {
  pairs : l.pairs.items ≡ flat_map (events_from l.plan) (below l.first);
  within : length l.pairs.items ≤ event_limit;
}
