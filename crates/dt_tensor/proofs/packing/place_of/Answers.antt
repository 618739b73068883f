use Rattle.std.proofs.Common.{ℕ, Some, ◌≡◌, sym, ltb, ltb-true, ltb-false, rules, arith}
use Rattle.std.proofs.lemmas.List.Sorted.{IsPartitionPoint-from_clause, IsPartitionedBy-ltb}
use Rattle.dt_level.proofs.SearchLemmas.{rising, least_is}
use Rattle.dt_tensor.proofs.GivenFronts.{among_at, near_at}
use Rattle.dt_tensor.proofs.packing.place_of.Goals as goal

pub returns-then-numbers-near : goal.returns-then-numbers-near
returns-then-numbers-near c = near_at c.args.numbers.now c.args.x c.args.near c.requires.ascending (omega arith) (search rules)

pub returns : goal.returns
returns c =
    let parted = IsPartitionedBy-ltb (λ (y : ℕ). y) c.args.numbers.now c.args.x (rising c.args.numbers.now c.requires.ascending) in
    let point = IsPartitionPoint-from_clause (λ (y : ℕ). ltb y c.args.x) _ _ c.partition_point.ensures.partitioned parted (λ a r q k. search rules) in
    among_at c.args.numbers.now c.args.x c.partition_point.result c.requires.ascending c.requires.among
    (sym (least_is c.args.numbers.now c.args.x c.partition_point.result c.partition_point.ensures.bound
    (λ i lt. ltb-true _ _ (point.0 i 0 (omega arith) lt))
    (λ lt. ltb-false _ _ (point.1 c.partition_point.result 0 (omega arith) lt))))
