use Rattle.std.proofs.Common.{length}
use Rattle.dt_plan.proofs.moved.+product_of.Given as goal

abbrev pub decreases-product_of : goal.decreases-product_of
decreases-product_of l = length l.extents.now
