use Rattle.std.proofs.Common.{ℕ, ◌<◌, ◌-◌, ◌^◌, List, length, take, drop, ap, sym, ◌∙◌, subst, arith}
use Rattle.std.specs.List.Sorted.{IsStrictlyIncreasing}
use Rattle.dt_level.proofs.SegmentLemmas.{segment_lies, segment_read, segment_lawful}
use Rattle.dt_level.proofs.compressed_level.Compressed.segment.Goals as goal

pub slice_bounds-result-end : goal.slice_bounds-result-end
slice_bounds-result-end c =
    let lies = segment_lies c.self.inside.pos c.self.inside.crd c.args.parent c.self.invariant.0 _ c.self.view_is c.requires _ c.ends-from.ensures.from _ c.ends-from.ensures.to in
    omega (arith, lies, ap length c.as_slice.ensures)

pub returns-clause-children : goal.returns-clause-children
returns-clause-children c =
    ap (λ (l : List ℕ). take (c.ends-from.result.1 - c.ends-from.result.0) (drop c.ends-from.result.0 l)) c.as_slice.ensures
    ∙ segment_read c.self.inside.pos c.self.inside.crd c.args.parent c.self.invariant.0 _ c.self.view_is c.requires _ c.ends-from.ensures.from _ c.ends-from.ensures.to

pub returns-clause-ascending : goal.returns-clause-ascending
returns-clause-ascending c =
    subst IsStrictlyIncreasing (sym (returns-clause-children c)) (segment_lawful _ c.args.parent c.ends-from.ensures.lawful c.requires).0

pub returns-clause-few : goal.returns-clause-few
returns-clause-few c =
    subst (λ (l : List ℕ). length l < 2 ^ 32) (sym (returns-clause-children c)) (segment_lawful _ c.args.parent c.ends-from.ensures.lawful c.requires).1
