use Rattle.std.proofs.Common.{◌≡◌, length, drop}
use Rattle.dt_nest.specs.Schedule.{seen}
use Rattle.dt_nest.specs.World.{world_of}
use Rattle.dt_nest.specs.ValueTables.{refilled}
use Rattle.dt_nest.proofs.value_tables.refill.Given as goal

abbrev pub invariant-loop-d : goal.invariant-loop-d
invariant-loop-d g l = record {
  same : length l.values ≡ length l.initial.values;
  left : refilled (world_of (g.L.Locator.tensors l.loc) (seen l.parts)) (drop l.d-index l.derived) l.values ≡ refilled (world_of (g.L.Locator.tensors l.loc) (seen l.parts)) l.derived l.initial.values;
}
