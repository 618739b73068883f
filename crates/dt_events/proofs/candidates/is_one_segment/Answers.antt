use Rattle.std.proofs.Common.{length, nat_eq, sym, ◌∙◌, arith}
use Rattle.std.proofs.lemmas.Bool.{ne_eqb}
use Rattle.dt_events.specs.Conflicts.{segment_of}
use Rattle.dt_events.proofs.Buckets.{not_all}
use Rattle.dt_events.proofs.candidates.is_one_segment.Goals as goal

pub returns-then-segment_of : goal.returns-then-segment_of
returns-then-segment_of c =
    let p = c.args.plan.now in
    sym (not_all (λ a. nat_eq (segment_of p a) (segment_of p 0)) (length p.ops) c.loop-op.op (omega (arith, c.op_count-op-end.ensures.count, c.loop-op-test.true))
    (ne_eqb (segment_of p c.loop-op.op) (segment_of p 0) (λ e. c.if-segment_of.true (c.segment_of.ensures ∙ e ∙ sym c.segment_of-in-loop-op.ensures))))
