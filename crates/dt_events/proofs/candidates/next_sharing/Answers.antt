use Rattle.std.proofs.Common.{◌≡◌, ◌+◌, ℕ, Bool, ◌&&◌, ◌||◌, List, [], length, get_or, nat_lt, take, ap, sym, ◌∙◌, subst, arith}
use Rattle.std.proofs.lemmas.List.{take_all}
use Rattle.std.specs.Prelude.{Option, slice_index_or}
use Rattle.std.specs.List.Sorted.{IsNonDecreasing}
use Rattle.dt_runs.specs.Sets.{contains}
use Rattle.dt_plan.specs.declared.touches.Touch.{Touch}
use Rattle.dt_tracker.specs.Tracks.{followers_in}
use Rattle.dt_events.specs.Candidates.{IsNext, bucket_of, bucket_pairs, share_bucket, sooner}
use Rattle.dt_events.proofs.Buckets.{bucket_at, bucket_up, buckets_length, share_more}
use Rattle.dt_events.proofs.NextNumbers.{next_either, next_same}
use Rattle.dt_events.proofs.candidates.next_sharing.Goals as goal

pub index-bucket-requires : goal.index-bucket-requires
index-bucket-requires c =
    let n = ap length c.requires.candidates.0 ∙ buckets_length c.args.plan.now in
    omega (arith, n, c.args.candidates.now.buckets.ok.0, c.bucket_of.ensures.within)

pub next_in-requires-clause-up : goal.next_in-requires-clause-up
next_in-requires-clause-up c =
    let p = c.args.plan.now in
    subst (λ (l : List ℕ). IsNonDecreasing l)
    (sym (c.as_slice.ensures.value ∙ c.bucket.view_is ∙ c.index-bucket.ensures
    ∙ ap (λ (l : List (List ℕ)). get_or l c.bucket_of.result c.index-bucket.result.now) c.requires.candidates.0
    ∙ bucket_at p c.bucket_of.result c.index-bucket.result.now c.bucket_of.ensures.within))
    (bucket_up p.touches c.bucket_of.result (length p.ops))

pub loop-touch-preserved : goal.loop-touch-preserved
loop-touch-preserved c =
    let p = c.args.plan.now in
    let fs = c.touches-touch-items.result.now in
    let i = c.loop-touch.touch-index in
    let f = c.touch-item.result in
    let here = c.as_slice.ensures.value ∙ c.bucket.view_is ∙ c.index-bucket.ensures
    ∙ ap (λ (l : List (List ℕ)). get_or l c.bucket_of.result c.index-bucket.result.now) c.requires.candidates.0
    ∙ bucket_at p c.bucket_of.result c.index-bucket.result.now c.bucket_of.ensures.within
    ∙ ap (λ h. followers_in (bucket_pairs p.touches (length p.ops)) h) (c.bucket_of.ensures.bucket ∙ ap (λ (g : Touch). bucket_of g) c.touch-item.is) in
    let old : ℕ → Bool = λ x. nat_lt x (length p.ops) && share_bucket (take i fs) (slice_index_or p.touches x []) in
    subst (λ (o : Option ℕ). IsNext (λ x. nat_lt x (length p.ops) && share_bucket (take (i + 1) fs) (slice_index_or p.touches x [])) c.args.last o) (sym c.sooner-next.ensures)
    (next_same (λ x. old x || contains c.as_slice.result.now x) (λ x. nat_lt x (length p.ops) && share_bucket (take (i + 1) fs) (slice_index_or p.touches x []))
    (λ x. ap (λ (l : List ℕ). old x || contains l x) here ∙ share_more p fs i f x c.loop-touch-test.true)
    c.args.last (sooner c.loop-touch.next c.next_in.result)
    (next_either old (contains c.as_slice.result.now) c.args.last c.loop-touch.next c.next_in.result c.loop-touch.invariant c.next_in.ensures))

pub returns : goal.returns
returns c =
    let p = c.args.plan.now in
    let fs = c.touches-touch-items.result.now in
    let all : take c.loop-touch.touch-index fs ≡ slice_index_or p.touches c.args.op [] = take_all c.loop-touch.touch-index fs c.loop-touch-test.false ∙ c.touches-touch-items.ensures in
    next_same (λ x. nat_lt x (length p.ops) && share_bucket (take c.loop-touch.touch-index fs) (slice_index_or p.touches x []))
    (λ x. nat_lt x (length p.ops) && share_bucket (slice_index_or p.touches c.args.op []) (slice_index_or p.touches x []))
    (λ x. ap (λ (l : List Touch). nat_lt x (length p.ops) && share_bucket l (slice_index_or p.touches x [])) all)
    c.args.last c.loop-touch.next c.loop-touch.invariant
