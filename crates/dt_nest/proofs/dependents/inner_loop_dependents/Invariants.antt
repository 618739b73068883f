use Rattle.std.proofs.Common.{◌≡◌, ◌<◌, ◌+◌, ℕ, [], length, take}
use Rattle.std.specs.Prelude.{slice_index_or}
use Rattle.dt_nest.specs.ValueTables.{dependents}
use Rattle.dt_nest.specs.InnerLoops.{is_inner_loop}
use Rattle.dt_nest.proofs.dependents.inner_loop_dependents.Given as goal

abbrev pub invariant-loop-k : goal.invariant-loop-k
invariant-loop-k l = record {
  marks : length l.marks.items ≡ l.names;
  count : length l.lists.items ≡ l.k;
  done : (j : ℕ) → j < l.k → slice_index_or l.lists.items j [] ≡ dependents l.derived (is_inner_loop (take (j + 1) l.inner_loops));
}
