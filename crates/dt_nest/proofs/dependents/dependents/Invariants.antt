use Rattle.std.proofs.Common.{◌≡◌, ◌≤◌, ℕ, length, drop}
use Rattle.dt_nest.specs.ValueTables.{dependents, depends, marked}
use Rattle.dt_nest.proofs.dependents.dependents.Given as goal

abbrev pub invariant-loop-k : goal.invariant-loop-k
invariant-loop-k l = record {
  same : length l.marks ≡ length l.initial.marks;
  within : l.k ≤ length l.derived;
  list : l.list ≡ dependents (drop l.k l.derived) (marked l.initial.marks);
  marks : (u : ℕ) → marked l.marks u ≡ depends (drop l.k l.derived) (marked l.initial.marks) u;
}

abbrev pub decreases-loop-k : goal.decreases-loop-k
decreases-loop-k l = l.k
