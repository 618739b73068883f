use Rattle.std.proofs.Common.{◌≡◌, map, take}
use Rattle.dt_plan.specs.Footprints.{footprints_of}
use Rattle.dt_plan.proofs.footprints.all_footprints.Given as goal

abbrev pub invariant-loop-op : goal.invariant-loop-op
invariant-loop-op g l = l.all.items ≡ map (footprints_of l.layout) (take l.op-index l.ops)
