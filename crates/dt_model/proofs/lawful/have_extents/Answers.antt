use Rattle.std.proofs.Common.{arith}
use Rattle.dt_model.proofs.LawfulFacts.{same_extents}
use Rattle.dt_model.proofs.lawful.have_extents.Goals as goal

pub returns : goal.returns
returns c = same_extents c.args.dims.now c.args.vars.now c.args.extents.now c.loop-i.i (omega arith) (omega arith) c.loop-i.invariant
