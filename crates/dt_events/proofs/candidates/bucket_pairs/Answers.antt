use Rattle.std.proofs.Common.{ℕ, [], ◌++◌, List, map, ap, ◌∙◌}
use Rattle.std.specs.Prelude.{slice_index_or}
use Rattle.dt_copy.proofs.Shared.{one_more}
use Rattle.dt_plan.specs.declared.touches.Touch.{Touch}
use Rattle.dt_events.specs.Candidates.{bucket_of, bucket_pairs}
use Rattle.dt_events.proofs.candidates.bucket_pairs.Goals as goal

pub loop-op-preserved : goal.loop-op-preserved
loop-op-preserved c =
    let own : List Touch → List (ℕ × ℕ) = λ fs. map (λ (f : Touch). (bucket_of f, c.loop-op.op)) fs in
    c.in_ok-push_buckets.ensures ∙ ap (λ l. l ++ own c.touches.result.now) c.loop-op.invariant
    ∙ ap (λ fs. bucket_pairs c.args.plan.now.touches c.loop-op.op ++ own fs) c.touches.ensures ∙ one_more (λ a. map (λ (f : Touch). (bucket_of f, a)) (slice_index_or c.args.plan.now.touches a [])) c.loop-op.op
