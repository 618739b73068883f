use Rattle.std.proofs.Common.{◌≡◌, ◌+◌, ◌<◌, true, not, ◌&&◌, ◌||◌, length, nat_lt, ap, sym, ◌∙◌, arith}
use Rattle.std.specs.Prelude.{[], slice_index_or}
use Rattle.std.proofs.lemmas.Bool.{and_from, and_left, le-ltb, lt-ltb, or_left}
use Rattle.dt_events.specs.Candidates.{is_candidate, is_one_segment, share_bucket}
use Rattle.dt_events.proofs.NextNumbers.{next_same}
use Rattle.dt_events.proofs.candidates.next_candidate.Goals as goal

pub returns-then-candidates : goal.returns-then-candidates
returns-then-candidates c =
    let p = c.args.plan.now in
    let a = c.args.op in
    let one : true ≡ is_one_segment p = sym c.if-candidates.true ∙ c.requires.candidates.1 in
    next_same (λ x. nat_lt x (length p.ops) && share_bucket (slice_index_or p.touches a []) (slice_index_or p.touches x [])) (is_candidate p a)
    (λ x. ap (λ t. nat_lt x (length p.ops) && (not t || share_bucket (slice_index_or p.touches a []) (slice_index_or p.touches x []))) one)
    c.args.last c.next_sharing.result c.next_sharing.ensures

pub overflow_add-next : goal.overflow_add-next
overflow_add-next c = omega (arith, c.requires.last, c.op_count-count.ensures.plan.few)

pub returns-then-next-count : goal.returns-then-next-count
returns-then-next-count c =
    let p = c.args.plan.now in
    let a = c.args.op in
    let b = c.args.last + 1 in
    let inside : b < length p.ops = omega (arith, c.op_count-count.ensures.count, c.if-next-count.true) in (
      omega arith,
      and_from (nat_lt b (length p.ops)) (not (is_one_segment p) || share_bucket (slice_index_or p.touches a []) (slice_index_or p.touches b [])) (lt-ltb b (length p.ops) inside)
          (or_left (not (is_one_segment p)) (share_bucket (slice_index_or p.touches a []) (slice_index_or p.touches b [])) (ap not (sym c.requires.candidates.1 ∙ c.if-candidates.false))),
      λ x k l. absurd (omega (arith, k, l)),
    )

pub returns-else-next-count : goal.returns-else-next-count
returns-else-next-count c =
    let p = c.args.plan.now in
    let a = c.args.op in
    λ x k.
    and_left (nat_lt x (length p.ops)) (not (is_one_segment p) || share_bucket (slice_index_or p.touches a []) (slice_index_or p.touches x []))
    (le-ltb x (length p.ops) (omega (arith, k, c.op_count-count.ensures.count, c.if-next-count.false)))
