use Rattle.std.proofs.Common.{◌≡◌, List, ℕ, length, ap, arith}
use Rattle.dt_plan.proofs.plans.Plan.over.Goals as goal

pub overflow_cast-result : goal.overflow_cast-result
overflow_cast-result c =
    let bounds = c.self.invariant.bounds in
    let nodes = c.self.invariant.nodes in
    let same : length c.as_slice.result.now ≡ length c.self.inside.bounds.items = ap (λ (l : List ℕ). length l) c.as_slice.ensures.value in
    omega (arith, bounds, nodes, same, c.in-Some.ensures.within)
