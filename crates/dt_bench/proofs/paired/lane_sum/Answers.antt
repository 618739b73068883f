use Rattle.std.proofs.Common.{ℕ, List, Some, subst, sym}
use Rattle.std.specs.List.{AllByRecursion}
use Rattle.dt_nest.specs.Point.{HasValueAt}
use Rattle.dt_bounds.proofs.Lanes.{lane_valued}
use Rattle.dt_bench.proofs.paired.lane_sum.Goals as goal

pub point_sum-requires-clause-valued : goal.point_sum-requires-clause-valued
point_sum-requires-clause-valued c =
    subst (λ (us : List ℕ). AllByRecursion (HasValueAt c.args.visits.now (Some c.args.x)) us) (sym c.as_slice.ensures)
    (lane_valued c.args.visits.now c.args.x c.args.lhs.now c.args.terms.now c.requires.leaf c.requires.valued).0
