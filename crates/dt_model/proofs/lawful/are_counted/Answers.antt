use Rattle.std.proofs.Common.{arith}
use Rattle.dt_model.proofs.LawfulFacts.{not_counted, counted_more, counted}
use Rattle.dt_model.proofs.lawful.are_counted.Goals as goal

pub returns-then-v-i : goal.returns-then-v-i
returns-then-v-i c = not_counted c.args.vars.now c.loop-i.i (omega arith) c.if-v-i.true

pub loop-i-preserved : goal.loop-i-preserved
loop-i-preserved c = counted_more c.args.vars.now c.loop-i.i (omega arith) (omega arith) c.loop-i.invariant

pub returns : goal.returns
returns c = counted c.args.vars.now c.loop-i.i (omega arith) c.loop-i.invariant
