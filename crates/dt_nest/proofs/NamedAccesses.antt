-- The accesses of a tree of a schedule.
use Rattle.std.specs.Prelude.{◌+◌, length}
use Rattle.std.specs.List.{AllByRecursion}
use Rattle.dt_nest.specs.Tree.{Tree, Loop, Pre, Leaf, accesses_of}
use Rattle.dt_nest.specs.Schedule.{Schedule}
use Rattle.dt_nest.specs.Lawful.{AccessBelow, IsNamed}
use Rattle.dt_nest.proofs.Each.{all_append}

-- the accesses of a tree of a schedule name what the schedule has
pub named_accesses : (s : Schedule) (tree : Tree) → IsNamed s tree → AllByRecursion (AccessBelow (length s.names) (length s.tensors + length s.works)) (accesses_of tree)
named_accesses s (Loop v n walk body) h = named_accesses s body h.3
named_accesses s (Pre work pairs producer consumer) h =
    all_append (AccessBelow (length s.names) (length s.tensors + length s.works)) (accesses_of producer) (accesses_of consumer) (named_accesses s producer h.2) (named_accesses s consumer h.3)
named_accesses s (Leaf lhs terms guards kernel) h = h.0
