use Rattle.std.proofs.Common.{◌≡◌, ◌≤◌, ℕ, List, Some, length, drop, slice_index}
use Rattle.dt_nest.specs.Schedule.{seen}
use Rattle.dt_nest.specs.World.{world_of}
use Rattle.dt_nest.specs.ValueTables.{IsTable, tabled}
use Rattle.dt_nest.proofs.value_tables.fill_derived.Given as goal

abbrev pub invariant-loop-k : goal.invariant-loop-k
invariant-loop-k g l = record {
  same : length l.values ≡ length l.initial.values;
  within : l.k ≤ length l.derived;
  done : (slots : List ℕ) → ((u : ℕ) → tabled l.initial.values u ≡ Some (slice_index slots u)) → IsTable (world_of (g.L.Locator.tensors l.loc) (seen l.parts)) (drop l.k l.derived) (g.N.Renaming.names l.names) slots l.values;
}

abbrev pub decreases-loop-k : goal.decreases-loop-k
decreases-loop-k g l = l.k
