use Rattle.std.proofs.Common.{List, ℕ, Option, None, sym, subst}
use Rattle.dt_nest.specs.Run.{Run}
use Rattle.dt_nest.specs.Point.{ArePointValues}
use Rattle.dt_nest.proofs.PointTables.{kept_values}
use Rattle.dt_nest.proofs.visits.Visits.point.Goals as goal

pub returns-clause-point : goal.returns-clause-point
returns-clause-point g c =
    subst (λ (l : List (Option ℕ)). ArePointValues c.args.self.now None l) (sym c.as_slice.ensures.value)
    (subst (λ (r : Run). ArePointValues r None c.self.inside.cursor.values.items) c.self.view_is
    (kept_values (g.L.Locator.tensors c.self.inside.loc.now) c.self.inside.sched.now c.self.inside.path.items c.self.inside.cursor.slots.items c.self.inside.progress c.self.invariant.0 c.self.inside.inner_loops c.self.inside.cursor.values.items c.self.invariant.1))
