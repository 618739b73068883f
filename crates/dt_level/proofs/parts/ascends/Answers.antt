use Rattle.std.proofs.Common.{sym, ◌∙◌, arith}
use Rattle.dt_level.proofs.SegmentLemmas.{ascends-short}
use Rattle.dt_level.proofs.parts.ascends.Goals as goal

pub returns : goal.returns
returns c = sym (ascends-short c.loop-rest.rest.now (omega arith)) ∙ c.loop-rest.invariant
