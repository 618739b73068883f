use Rattle.std.proofs.Common.{◌≡◌, length}
use Rattle.dt_nest.specs.declared.progress.Progress.TheVariants.{On}
use Rattle.dt_nest.specs.Schedule.{seen}
use Rattle.dt_nest.specs.World.{world_of}
use Rattle.dt_nest.specs.Cursor.{HasRoom}
use Rattle.dt_nest.specs.ValueTables.{IsTable}
use Rattle.dt_nest.specs.Run.{CanGoOn, left_of, run_tests}
use Rattle.dt_nest.proofs.steps.turned.Given as goal

abbrev pub invariant-loop : goal.invariant-loop
invariant-loop g l = record {
  on : CanGoOn (g.L.Locator.tensors l.conditions.loc.now) (seen l.conditions.parts.now) l.path l.cursor.slots.items (On l.inner_loops.leaf);
  left : left_of (run_tests (g.L.Locator.tensors l.conditions.loc.now) (seen l.conditions.parts.now)) (seen l.conditions.parts.now).nest l.path l.initial.cursor.slots.items (On l.inner_loops.leaf)
      ≡ left_of (run_tests (g.L.Locator.tensors l.conditions.loc.now) (seen l.conditions.parts.now)) (seen l.conditions.parts.now).nest l.path l.cursor.slots.items (On l.inner_loops.leaf);
  table : IsTable (world_of (g.L.Locator.tensors l.conditions.loc.now) (seen l.conditions.parts.now)) l.conditions.parts.now.derived (λ u. u) l.cursor.slots.items l.cursor.values.items;
  room : HasRoom l.cursor (length l.conditions.parts.now.names);
}
