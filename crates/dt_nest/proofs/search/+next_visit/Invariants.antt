use Rattle.std.proofs.Common.{◌+◌, ◌*◌}
use Rattle.dt_nest.specs.Tree.{tree_of, size_of}
use Rattle.dt_nest.proofs.search.+next_visit.Given as goal

abbrev pub decreases-next_visit : goal.decreases-next_visit
decreases-next_visit g l = 2 * size_of (tree_of l.nest.now)

abbrev pub decreases-next_in_loop : goal.decreases-next_in_loop
decreases-next_in_loop g l = 2 * size_of (tree_of l.head.now.body.now) + 1

abbrev pub decreases-next_in_producer : goal.decreases-next_in_producer
decreases-next_in_producer g l = 2 * (size_of (tree_of l.branches.now.producer.now) + size_of (tree_of l.branches.now.consumer.now)) + 1

abbrev pub decreases-next_in_consumer : goal.decreases-next_in_consumer
decreases-next_in_consumer g l = 2 * (size_of (tree_of l.branches.now.producer.now) + size_of (tree_of l.branches.now.consumer.now)) + 1
