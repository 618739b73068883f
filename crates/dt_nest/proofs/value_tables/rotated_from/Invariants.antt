use Rattle.std.proofs.Common.{◌≡◌, ◌%◌, Some, option_map, take}
use Rattle.dt_nest.specs.Values.{sum_inside}
use Rattle.dt_nest.specs.ValueTables.{named}
use Rattle.dt_nest.proofs.value_tables.rotated_from.Given as goal

abbrev pub invariant-loop-u : goal.invariant-loop-u
invariant-loop-u g l = Some l.sum ≡ option_map (λ x. x % l.extent) (sum_inside (named l.known.values.now (g.N.Renaming.names l.known.names.now)) (Some l.start) (take l.u-index l.by))
