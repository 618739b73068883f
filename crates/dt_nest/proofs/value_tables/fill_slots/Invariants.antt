use Rattle.std.proofs.Common.{◌≡◌, ◌<◌, ℕ, Some, length, slice_index}
use Rattle.dt_nest.specs.ValueTables.{tabled}
use Rattle.dt_nest.proofs.value_tables.fill_slots.Given as goal

abbrev pub invariant-loop-u : goal.invariant-loop-u
invariant-loop-u l = record {
  same : length l.values ≡ length l.initial.values;
  done : (v : ℕ) → v < l.u → tabled l.values v ≡ Some (slice_index l.slots v);
}
