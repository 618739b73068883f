use Rattle.std.proofs.Common.{◌≡◌, drop, slice_index}
use Rattle.std.specs.List.{list_all}
use Rattle.dt_nest.specs.ValueTables.{named}
use Rattle.dt_nest.specs.Values.{is_below}
use Rattle.dt_nest.proofs.guards.hold.Given as goal

abbrev pub invariant-loop-guard : goal.invariant-loop-guard
invariant-loop-guard g l =
    list_all (λ v. is_below (slice_index l.extents v) (named l.known.values.now (g.N.Renaming.names l.known.names.now) v)) l.guards
    ≡ list_all (λ v. is_below (slice_index l.extents v) (named l.known.values.now (g.N.Renaming.names l.known.names.now) v)) (drop l.guard-index l.guards)
