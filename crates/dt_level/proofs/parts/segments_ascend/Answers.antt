use Rattle.std.proofs.Common.{sym, ◌∙◌, arith}
use Rattle.dt_level.proofs.SegmentLemmas.{segments-short, next_le, le_last}
use Rattle.dt_level.proofs.parts.segments_ascend.Goals as goal

pub slice_bounds-ascends-end : goal.slice_bounds-ascends-end
slice_bounds-ascends-end c =
    let next = next_le c.loop-rest.rest.now 0 c.loop-rest.invariant.up (omega arith) in
    let last = le_last c.loop-rest.rest.now 1 c.loop-rest.invariant.up (omega arith) in
    omega (arith, next, last, c.loop-rest.invariant.last)

pub returns : goal.returns
returns c = sym (segments-short c.loop-rest.rest.now c.args.crd.now (omega arith)) ∙ c.loop-rest.invariant.same
