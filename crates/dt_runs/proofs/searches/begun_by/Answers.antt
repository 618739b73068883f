use Rattle.std.proofs.Common.{leb, leb-true, leb-false, rules}
use Rattle.std.proofs.lemmas.List.Sorted.{IsPartitionPoint-from_clause, IsPartitionedBy-leb}
use Rattle.dt_runs.specs.declared.interval.Interval.{Interval}
use Rattle.dt_runs.proofs.SearchLemmas.{firsts_rise}
use Rattle.dt_runs.proofs.searches.begun_by.Goals as goal

pub returns-clause-point : goal.returns-clause-point
returns-clause-point c =
    let parted = IsPartitionedBy-leb (λ (i : Interval). i.first) c.args.intervals.now c.args.x (firsts_rise 0 c.args.intervals.now c.requires) in
    let point = IsPartitionPoint-from_clause (λ (i : Interval). leb i.first c.args.x) _ _ c.partition_point.ensures.partitioned parted (λ a r q k. search rules) in
    (λ k d low high. leb-true _ _ (point.0 k d low high), λ k d low high. leb-false _ _ (point.1 k d low high))
