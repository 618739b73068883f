use Rattle.std.proofs.Common.{◌≡◌, map, take}
use Rattle.std.specs.Prelude.{min}
use Rattle.dt_nest.specs.Point.{env_at}
use Rattle.dt_bounds.proofs.accesses.write_coordinates.Given as goal

abbrev pub invariant-loop-var : goal.invariant-loop-var
invariant-loop-var g l = l.coords.items ≡ map (λ u. min (env_at l.visits l.point.lane u) 4294967295) (take l.var-index l.vars)
