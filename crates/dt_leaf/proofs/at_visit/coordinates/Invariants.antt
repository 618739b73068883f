use Rattle.std.proofs.Common.{◌≡◌, length, take, map}
use Rattle.dt_nest.specs.Point.{env_at}
use Rattle.dt_leaf.proofs.at_visit.coordinates.Given as goal

abbrev pub invariant-loop-i : goal.invariant-loop-i
invariant-loop-i g l = record {
  room : length l.coords ≡ 16;
  values : take l.i l.coords ≡ map (env_at l.visits l.point.lane) (take l.i l.vars);
}
