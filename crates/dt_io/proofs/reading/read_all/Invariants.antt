use Rattle.std.proofs.Common.{◌≤◌, ◌+◌, ◌-◌, length}
use Rattle.std.specs.Io.KnownBytes.{Consumes}
use Rattle.dt_io.proofs.reading.read_all.Given as goal

abbrev pub invariant-loop-count : goal.invariant-loop-count
invariant-loop-count g l = record {
  within : length l.all ≤ l.limit;
  bytes : Consumes (g.R.Source.left l.initial.src) (g.R.Source.left l.src) l.all;
  later : g.R.Source.faults l.initial.src ≤ g.R.Source.faults l.src;
}

abbrev pub decreases-loop-count : goal.decreases-loop-count
decreases-loop-count g l = l.limit + 1 - length l.all
