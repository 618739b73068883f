use Rattle.std.proofs.Common.{◌≡◌, ◌<◌, ℕ, length}
use Rattle.dt_nest.specs.ValueTables.{marked}
use Rattle.dt_nest.specs.InnerLoops.{is_inner_loop}
use Rattle.dt_nest.proofs.dependents.mark_inner_loops.Given as goal

abbrev pub invariant-loop-u : goal.invariant-loop-u
invariant-loop-u l = record {
  same : length l.marks ≡ length l.initial.marks;
  done : (v : ℕ) → v < l.u → marked l.marks v ≡ is_inner_loop l.inner_loops v;
}
