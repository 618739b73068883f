use Rattle.std.proofs.Common.{ℕ, ◌<◌, List, length, map, ap, sym, ◌∙◌, subst}
use Rattle.std.specs.List.{All}
use Rattle.dt_base.specs.Ranges.{below}
use Rattle.dt_tracker.specs.Tracks.{followers_in}
use Rattle.dt_events.specs.Candidates.{bucket_count}
use Rattle.dt_events.proofs.Buckets.{pairs_within}
use Rattle.dt_events.proofs.candidates.candidates_of.Goals as goal

pub rows_of-requires : goal.rows_of-requires
rows_of-requires c =
    let p = c.args.plan.now in
    subst (λ (es : List (ℕ × ℕ)). All (λ (e : ℕ × ℕ). e.0 < bucket_count) es) (sym (c.as_slice.ensures.value ∙ c.in_ok-pairs.ensures)) (pairs_within p.touches (length p.ops))

pub returns : goal.returns
returns c = (
  c.in_ok-buckets.ensures ∙ ap (λ (es : List (ℕ × ℕ)). map (followers_in es) (below bucket_count)) (c.as_slice.ensures.value ∙ c.in_ok-pairs.ensures),
  c.is_one_segment.ensures,
)
