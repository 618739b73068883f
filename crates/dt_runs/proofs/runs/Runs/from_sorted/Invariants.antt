use Rattle.std.proofs.Common.{◌≡◌, ◌<◌, length, take, get_or}
use Rattle.std.specs.List.{All}
use Rattle.dt_runs.proofs.runs.Runs.from_sorted.Given as goal

abbrev pub invariant-loop-x : goal.invariant-loop-x
invariant-loop-x l = record {
  so_far : l.runs ≡ take l.x-index l.list;
  behind : l.x-index < length l.list → All (λ y. y < get_or l.list l.x-index 0) l.runs;
}
