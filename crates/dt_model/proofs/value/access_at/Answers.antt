use Rattle.std.proofs.Common.{ℕ, length, take, arith, ap, length-set}
use Rattle.dt_model.proofs.Accesses.{coordinates_more, access_none, access_some, take_full}
use Rattle.dt_model.proofs.value.access_at.Goals as goal

pub loop-i-preserved : goal.loop-i-preserved
loop-i-preserved c = record {
  room = omega (arith, length-set {A = ℕ}, c.loop-i.invariant.room);
  front = coordinates_more c.args.env.now c.as_slice-vars.result.now c.loop-i.c c.loop-i.i c.loop-i-test.true (omega (arith, c.requires.0, ap length c.as_slice-vars.ensures)) c.loop-i.invariant.front;
}

pub returns-in-None : goal.returns-in-None
returns-in-None c = access_none c.args.tensors.now c.args.env.now c.args.access.now c.in-None.ensures

pub returns-in-Some : goal.returns-in-Some
returns-in-Some c = access_some c.args.tensors.now c.args.env.now c.args.access.now c.in-Some.tensor.now (take (length c.as_slice-vars.result.now) c.loop-i.c) c.unwrap_or.result c.in-Some.ensures
    (take_full c.args.env.now c.as_slice-vars.result.now c.args.access.now.vars c.loop-i.c c.loop-i.i c.as_slice-vars.ensures (omega arith) c.loop-i.invariant.front) (rw (← c.get.ensures.number) c.unwrap_or.ensures)
