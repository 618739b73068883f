use Rattle.std.proofs.Common.{sym, ◌∙◌, arith}
use Rattle.dt_level.proofs.SegmentLemmas.{never_falls-short}
use Rattle.dt_level.proofs.parts.never_falls.Goals as goal

pub returns : goal.returns
returns c = sym (never_falls-short c.loop-rest.rest.now (omega arith)) ∙ c.loop-rest.invariant
