use Rattle.std.proofs.Common.{arith}
use Rattle.dt_nest.specs.Tree.{tree_of}
use Rattle.dt_nest.proofs.NextSearches.{works_few}
use Rattle.dt_nest.proofs.progress.arrival.Goals as goal

pub overflow_add-result : goal.overflow_add-result
overflow_add-result c = omega (arith, c.requires.few, c.requires.exists, works_few (tree_of c.args.nest.now) c.args.leaf)
