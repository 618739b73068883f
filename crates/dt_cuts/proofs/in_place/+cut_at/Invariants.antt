use Rattle.dt_nest.specs.Tree.{size_of, tree_of}
use Rattle.dt_cuts.proofs.in_place.+cut_at.Given as goal

abbrev pub decreases-cut_at : goal.decreases-cut_at
decreases-cut_at l = size_of (tree_of l.nest.now)
