use Rattle.std.proofs.Common.{ℕ, arith, length-set}
use Rattle.dt_nest.specs.Point.{env_at}
use Rattle.dt_leaf.proofs.VisitFacts.{coordinates_more}
use Rattle.dt_leaf.proofs.at_visit.coordinates.Goals as goal

pub loop-i-preserved : goal.loop-i-preserved
loop-i-preserved g c = record {
  room = omega (arith, length-set {A = ℕ}, c.loop-i.invariant.room);
  values = coordinates_more (env_at c.args.visits.now c.args.point.now.lane) c.args.vars.now c.loop-i.coords c.loop-i.i c.value_in.result c.loop-i-test.true (omega (arith, c.requires.vars.few, c.loop-i.invariant.room)) c.value_in.ensures.value c.loop-i.invariant.values;
}
